-- reading takes bytes from the front, so that the bytes that are left are an end of those before
pub mod NumberLemmas
pub mod Leaving
-- parts of a module, one after the other, and repeated
pub mod PartLemmas
pub mod RepeatedLemmas
pub mod PartPlaces
pub mod ConstantLemmas
-- declarations of locals, group by group; indices of locals, one more at a time
pub mod LocalLemmas
pub mod LaneLocals
pub mod SpaceLemmas
-- the first section with an id
pub mod ViewLemmas
-- names of exports, one export after the other
pub mod ExportNameLemmas
-- names of custom sections that are left out, and one more
pub mod OmissionLemmas
-- sections that are given contents, and one more
pub mod AdditionLemmas
-- sections in which the indices of functions are others, item by item; and the indices of functions
pub mod MovedLemmas
pub mod RenumberingLemmas
-- the functions to which parts and sections refer
pub mod ReferenceLemmas
pub mod ReferencesReadLemmas
-- numbers where an item is added to a module that was read
pub mod DefinedLemmas
-- the types of a section, item by item
pub mod TypeReadingLemmas
-- modules that consist of the same, whatever bodies they have: what sections add to them, and sections that are replaced
pub mod SameComponentLemmas
pub mod SameContentLemmas
pub mod SameSectionLemmas
pub mod OtherContentLemmas
-- examples that fix the definitions of a module and of its parts: modules and parts by hand, computed
pub mod Examples
