-- runs of locals, and the types of a function's locals
pub mod Runs
pub mod LocalTypes
-- the places of the locals that are set
pub mod Places
