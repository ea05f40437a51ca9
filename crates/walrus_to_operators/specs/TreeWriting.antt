-- Writing a function's tree: its operators.
pub mod References
pub mod Operators
