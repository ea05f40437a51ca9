-- the operands of operations
pub mod Operands
-- expressions: their operations, and how these are read
pub mod Expressions
-- expressions of a function whose locals have new indices
pub mod Moving
-- operations as the code has them
pub mod Reading
