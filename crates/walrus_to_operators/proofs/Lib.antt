-- writing a function's tree
pub mod TreeWriting
