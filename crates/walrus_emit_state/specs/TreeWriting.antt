-- Writing a function's tree: the state of the code.
pub mod Closers
pub mod ScopeLists
pub mod ScopeTables
pub mod Labels
pub mod Announcing
pub mod Drafts
