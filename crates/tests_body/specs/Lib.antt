pub mod ReadBack
pub mod Recording
pub mod Validators
