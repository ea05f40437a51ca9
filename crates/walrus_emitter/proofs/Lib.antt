-- writing a function's tree
pub mod Emission
pub mod TreeWriting
