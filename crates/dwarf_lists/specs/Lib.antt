-- the entries of lists, and how they are read
pub mod Entries
-- entries as the code has them
pub mod Reading
-- lists of which the code moves
pub mod Moving
pub mod Lists
