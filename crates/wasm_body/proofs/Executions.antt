-- The law of executions.
pub mod Same
pub mod Steps
pub mod Constructs
pub mod Handlers
pub mod RewritesTo
pub mod Enough
pub mod Locations
pub mod Natural
pub mod NormalForms
