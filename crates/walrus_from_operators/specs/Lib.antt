-- The instructions of operators.
pub mod OperatorKinds
pub mod Placed
