-- the meaning of the validator of locals, and of the declarations of a body
pub mod LocalsBelow
pub mod Declarations
-- the faults of errors of the crates below
pub mod Faults
-- sections and their ranks; the items of sections; the code section and its bodies, as they are read and as they are written
pub mod Sections
pub mod Views
pub mod CodeSections
-- how the parts of a module are read, as functions of the bytes: ways to combine parts, the parts of sections, and a whole module
pub mod Parts
pub mod Format
pub mod Components
-- when two modules consist of the same, whatever bodies they have
pub mod SameComponents
-- parts of a type section, and how many types it has; one more item of an index space
pub mod TypeParts
pub mod NextItems
-- custom sections that are left out, by their names
pub mod Omissions
-- contents that are given for sections, and items that are added after those of a section; constants that are written
pub mod GivenContents
pub mod Additions
pub mod Constants
-- the index spaces of a module, of which only the locals change; the contents of sections in which indices of functions are others,
-- and the written indices of functions
pub mod OtherLocals
-- the functions to which the sections of a module refer
pub mod References
-- items that are added to a module that was read
pub mod DefinedItems
pub mod MovedFunctions
