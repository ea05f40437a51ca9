-- walks and what is reached
pub mod Walks
-- the edges from an item, by their numbers
pub mod Chains
-- the steps of a search
pub mod Searching
