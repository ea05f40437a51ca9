-- Writing a function's tree.
pub mod Labels
