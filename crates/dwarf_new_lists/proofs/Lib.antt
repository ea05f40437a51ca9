-- an entry is read whatever follows it, and has at least a byte
pub mod Entries
-- what is written of an entry is read as it
pub mod Texts
-- an entry that is moved, and one more of them
pub mod Steps
-- where a list ends
pub mod Ends
-- what is told one after the other
pub mod Tellings
-- where a list is in what is written
pub mod Found
-- what of an entry is passed
pub mod Passing
