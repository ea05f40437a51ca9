-- fronts of a body, one operator after the other
pub mod Fronts
-- what the loop over a body shows
pub mod TakenFronts
-- the first fault is one
pub mod OneVerdict
-- the validator of a body, operator by operator
pub mod CheckedSteps
-- other operands in a well-formed state
pub mod OtherOperands
-- examples that pin the definitions
pub mod Examples
