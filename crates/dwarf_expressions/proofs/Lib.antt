-- an operation is read whatever follows it
pub mod Again
-- one operation more
pub mod Loops
-- what is written is read
pub mod Moves
-- it has the operands that it had
pub mod Same
