-- The law of validity.
pub mod NestedFrames
pub mod ValidSequences
pub mod HeightsAgree
pub mod ValidNormalForms
