-- reading agrees with encodings, for types, immediates and operators; a value that is read at the front is the one encoded
-- there
pub mod TypeLaws
pub mod ImmediateLaws
pub mod OperationLaws
pub mod ReadingBytes
-- the shortest encoding is an encoding, and every other is longer
pub mod ShortestNumbers
pub mod Shortness
pub mod ShortestTypes
pub mod ShortestImmediates
pub mod ShortestOperations
-- lists of operators that the same bytes encode
pub mod ListLaws
-- operators whose numbers fit have encodings; every operator has its row: the function of each family's opcodes ends in the
-- proof
pub mod Written
pub mod Rows
-- lists in the input, read by a loop and by an iterator; clauses that are compared as equal are the same
pub mod BorrowedLists
pub mod SameLists
-- the code's immediates of an opcode are found in the immediates of its meaning
pub mod Shapes
