pub mod TreeWriting
