pub mod Made
pub mod Options
pub mod Outcomes
