-- operators: an opcode and immediates; the encodings of types and immediates
pub mod Operations
pub mod Types
pub mod Immediates
-- the operation of each operator of the code, by families
pub mod UnaryOperations
pub mod BinaryOperations
pub mod TernaryOperations
pub mod AccessOperations
pub mod Meaning
-- opcodes and the kinds of their immediates; the encodings of an operator, and the shortest one; lists of operators with places
pub mod Opcodes
pub mod Spelling
pub mod OperatorList
pub mod Shortest
-- the laws of encodings
pub mod Laws
-- further families
pub mod VectorAccessOpcodes
pub mod AtomicOpcodes
pub mod ReferenceOperations
-- operators taken apart; the operators that have an encoding; the tables of rows, in which every operator has one; lists in the
-- input
pub mod Parts
pub mod Fitting
pub mod Rows
pub mod Lists
