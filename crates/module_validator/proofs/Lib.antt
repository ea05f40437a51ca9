-- the validity of code, and the verdict of the validator of bodies
pub mod CodeLemmas
-- constant expressions
pub mod ConstantLemmas
-- vectors of items, and the contents of sections
pub mod LoopLemmas
-- names of exports
pub mod NameLemmas
pub mod ExportLemmas
-- sections with items that are checked one by one
pub mod SectionLemmas
-- the bodies of a code section
pub mod BodyLemmas
-- supertypes, one after the other
pub mod SupertypeLemmas
