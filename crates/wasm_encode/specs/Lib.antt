pub mod Declarations
pub mod Writable
