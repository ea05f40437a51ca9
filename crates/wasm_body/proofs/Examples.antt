-- Examples that fix the definitions: their values for bodies that are given by hand, computed.
pub mod Operators
pub mod Reading
pub mod PrefixedReading
pub mod References
pub mod Modules
pub mod Rows
pub mod Runs
pub mod Naming
pub mod NormalForms
pub mod Texts
pub mod Instructions
pub mod Parses
pub mod Rewritings
pub mod Pairs
pub mod Premises
pub mod LocalNumbers
pub mod ValidBodies
