-- steps of the parts of a type section
pub mod TypePartLemmas
-- groups, one after the other
pub mod GroupLemmas
-- marks of the functions that are named
pub mod MarkLemmas
-- items and sections, one after the other
pub mod ItemLemmas
pub mod SectionStepLemmas
-- examples that fix the definitions: a module by hand, computed
pub mod Examples
