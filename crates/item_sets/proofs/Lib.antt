-- new indices in order, and without gaps
pub mod NewIndices
