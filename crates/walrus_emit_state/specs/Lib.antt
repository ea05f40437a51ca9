pub mod Emission
pub mod TreeWriting
