-- runs, and those of a number
pub mod Runs
-- the places of locals that are set
pub mod Places
-- the locals that are set where a function begins
pub mod Initial
