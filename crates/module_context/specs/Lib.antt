-- faults of modules that are read, and aren't valid
pub mod InvalidFaults
-- the types that a type section defines
pub mod TypeSections
-- the types of imports and of element segments
pub mod DeclaredItems
-- sections, one after the other
pub mod SectionSteps
-- the context of a module
pub mod ModuleContexts
-- results of the code, by what they mean
pub mod ReadContexts
