-- well-formed states
pub mod WellFormed
-- operands, frames and locals
pub mod States
-- what the methods do
pub mod Steps
-- steps
pub mod Core
-- plain operators
pub mod Plain
-- operands that are popped, whatever their types
pub mod Popped
-- `br_on_null`
pub mod NullBranches
