-- parts that are replaced one after the other
pub mod Repeating
-- how many bytes a number takes
pub mod Taken
-- tables of lists that follow
pub mod ListTableLemmas
-- entries of macros that are passed
pub mod MacroLemmas
-- line tables by ascending offsets
pub mod TablesAscend
-- fields in order, of the same sizes
pub mod FieldLemmas
pub mod NamesKeep
pub mod RangesKeep
pub mod MacrosKeep
-- the index of names
pub mod IndexTables
pub mod IndexCodes
pub mod IndexLemmas
-- lists of a section
pub mod PlacedLemmas
-- sections by their names
pub mod SectionLemmas
pub mod NamedContents
-- results with the section of their fault
pub mod Failures
-- what becomes of the sections
pub mod DebugSteps
