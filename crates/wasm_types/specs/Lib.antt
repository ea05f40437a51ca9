-- the order of value types
pub mod TypeOrder
