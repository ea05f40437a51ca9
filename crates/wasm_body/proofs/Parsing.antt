-- Accepted bodies and first faults are the results of parsing on lists.
pub mod NamingLemmas
pub mod Parses
pub mod Stops
pub mod ParseResults
pub mod Longest
