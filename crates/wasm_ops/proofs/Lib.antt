pub mod Fronts
pub mod Passing
pub mod VectorRanges
