-- what the tools change of a sequence
pub mod Sequences
-- what they make of functions, and the global in which calls are counted
pub mod FunctionChanges
pub mod Counters
