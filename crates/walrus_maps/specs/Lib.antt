pub mod Growth
pub mod Locals
pub mod IdTables
pub mod IndexMaps
pub mod Numbering
pub mod Environments
