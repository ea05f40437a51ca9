-- the demo module, and the numbers that are written for it; the contract of rewriting over it
pub mod Demo
pub mod Rewriting
-- the environment in which a body is read, and the names and places of its operators; naming without the rules of labels
pub mod NamedBodies
pub mod Namers
