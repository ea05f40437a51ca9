-- Writing a function's tree.
pub mod ScopeTables
pub mod Announcing
pub mod IfScopes
