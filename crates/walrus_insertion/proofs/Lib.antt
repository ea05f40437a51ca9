-- the steps of a script; instructions that can be inserted, as operators; edited sequences, and their trees
pub mod Editing
pub mod Asking
pub mod PlainOperators
pub mod EditedItems
pub mod CutTrees
pub mod EditedFunctions
pub mod Visiting
-- a function that begins with instructions more
pub mod AddedItems
pub mod Elsewhere
pub mod BegunBodies
