-- the forms of values
pub mod Forms
-- what attributes mean
pub mod Attributes
-- values up to what ends them
pub mod UpToEnd
-- abbreviations
pub mod Abbreviations
pub mod Sound
pub mod InMemory
-- units
pub mod Units
-- what becomes of attributes
pub mod Effects
-- entries, and the steps of all
pub mod Entries
pub mod Steps
pub mod Taken
pub mod OtherBytes
-- offsets that follow
pub mod Following
-- values of the code
pub mod Views
pub mod UnitViews
pub mod Contexts
pub mod EntryViews
pub mod FollowViews
