-- a function has one tree, and begins with a sequence of its builder; the faults of emitting what a parse
-- made
pub mod OneTree
pub mod EmittedFaults
