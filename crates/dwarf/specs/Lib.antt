-- numbers that are replaced where they are
pub mod Replacing
-- tables of names
pub mod Names
pub mod NamesViews
-- address ranges
pub mod AddressRanges
pub mod RangesViews
-- tables of lists
pub mod ListTables
pub mod ListTablesViews
-- macros
pub mod Macros
pub mod MacrosViews
-- every other byte stays
pub mod NewFields
-- the index of names
pub mod NameIndex
pub mod NameIndexViews
-- entries of that index
pub mod IndexEntries
pub mod IndexSound
pub mod IndexInMemory
-- lists by their offsets
pub mod PlacedLists
pub mod PlacedListsViews
-- sections by their names
pub mod Sections
-- what becomes of all sections
pub mod MovedDebug
pub mod MovedDebugViews
