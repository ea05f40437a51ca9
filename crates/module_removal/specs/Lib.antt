-- steps, one after the other; over the parts of a module
pub mod SeveralSteps
pub mod ModuleSteps
-- the numbers of items, and their marks
pub mod ItemNumbers
-- which items are left, and the index that is written for each
pub mod LeftSpaces
-- what is copied of a module: of its parts, of constant expressions, and of the items of sections
pub mod CopiedParts
pub mod CopiedConstants
pub mod CopiedItems
-- how many items a module has
pub mod Counting
-- functions of which references are taken
pub mod Declaring
-- the items that an operator names
pub mod NamedItems
-- edges between items, and what is gathered of each item
pub mod Edges
pub mod Gathered
-- what is left of a module
pub mod Remaining
-- what is claimed of what is left
pub mod LeftLaws
-- what is left of names, and of items of functions in custom sections
pub mod Entries
pub mod LeftParts
pub mod LeftNames
-- what is written for the items of a section
pub mod Written
-- what is written for sections, and for the whole module
pub mod LeftSections
-- why the items of a section aren't written
pub mod Refusals
