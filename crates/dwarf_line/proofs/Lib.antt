-- operations are read as the same values, whatever follows them
pub mod Local
-- values that are read one after the other
pub mod RepeatedLemmas
-- what of a program doesn't move the address
pub mod KeptLemmas
-- what operations do one after the other
pub mod MachineLemmas
-- the bytes of operations that are written
pub mod Spelled
-- the advances of special opcodes
pub mod SpecialLemmas
-- what is written, by its bytes
pub mod WrittenLemmas
-- what is written for operations of the source
pub mod Following
-- numbers whose values don't matter
pub mod NumberLemmas
-- sequences, while they are read
pub mod SequenceLemmas
-- sequences, while they are written
pub mod MovedLemmas
-- programs, while they are written
pub mod ProgramLemmas
-- tables, as they are read and written
pub mod TableLemmas
