-- lists whose last item is the topmost
pub mod Lists
-- results of steps, one after the other
pub mod StepResults
-- operands that are popped
pub mod Popping
-- frames that are opened and closed, and labels
pub mod Frames
-- well-formed states: after a step of the algorithm they are well-formed again
pub mod WellFormed
-- constructs
pub mod Constructs
-- the clauses of `try_table`
pub mod Clauses
-- operators by a type, at a point as in the whole stack; branches
pub mod TypedPoints
pub mod Branches
-- operators after which code can't be reached
pub mod Leaving
-- `br_table`
pub mod Holding
pub mod Tables
-- plain operators
pub mod PlainOperators
-- locals that are initialised
pub mod SetOrInitial
-- operands that are popped, whatever their types
pub mod PoppedOperands
-- operators by rules for operands
pub mod PointRules
-- operators whose opcode depends on their kind
pub mod PlainOpcodes
-- the step at each plain operator of the code
pub mod PlainSteps
-- types in a row that are popped
pub mod Repeated
-- the step of the algorithm at each operator of the code
pub mod ControlSteps
-- a step of the code, by the equation of its operator
pub mod Stepping
-- `br_on_null`
pub mod NullBranches
