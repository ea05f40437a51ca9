-- the names of the programs
pub mod Names
