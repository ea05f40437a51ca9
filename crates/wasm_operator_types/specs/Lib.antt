-- numeric and vector operators
pub mod NumericTypes
-- accesses to memory
pub mod AccessTypes
