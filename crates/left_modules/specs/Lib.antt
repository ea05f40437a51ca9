-- sections with the names of others
pub mod NamedSections
