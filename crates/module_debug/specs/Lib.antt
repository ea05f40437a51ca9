-- listeners that want the places of operators
pub mod Places
-- sections that are written after a module
pub mod Sections
