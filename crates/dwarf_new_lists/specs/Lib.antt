-- the kinds of entries
pub mod Kinds
-- entries, and how they are read
pub mod Entries
-- entries as the code has them
pub mod Reading
-- entries as they are written
pub mod Writing
-- what entries say of addresses
pub mod Sayings
-- what lists are moved by
pub mod Contexts
-- lists
pub mod NewLists
-- what is told of addresses
pub mod Tellings
-- why a list isn't moved
pub mod Refusals
pub mod WritingRefusals
-- what is claimed of a section
pub mod Laws
