-- Writing a function's tree as a visitor of its walk.
pub mod Texts
