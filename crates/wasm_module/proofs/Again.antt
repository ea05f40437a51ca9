-- A module that was written is read again, and written unchanged: the names of its operators, and what is written of these; its locals
-- and their declarations; the types that are added; a body; the types of functions; a body of a module; its
-- code section, and the module
pub mod OtherNames
pub mod WrittenAlike
pub mod Locals
pub mod Declarations
pub mod AddedTypes
pub mod Bodies
pub mod FunctionTypes
pub mod Rewritten
pub mod Code
pub mod Modules
