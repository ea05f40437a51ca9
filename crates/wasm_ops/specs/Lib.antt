pub mod CommonOperators
pub mod Position
