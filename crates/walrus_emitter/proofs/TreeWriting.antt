-- Writing a function's tree.
pub mod Lanes
pub mod Steps
pub mod Spelled
pub mod Trees
pub mod Openers
