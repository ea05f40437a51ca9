-- the meaning of a `NamedOp`
pub mod NamedOperators
-- the meanings of the code's outcomes, events, runs and controls
pub mod Runs
pub mod Controls
-- the contents of the table of a body; the state of the machine, and the run that continues from it
pub mod Tables
pub mod Tracing
