-- modules by hand, and their validity
pub mod Examples
