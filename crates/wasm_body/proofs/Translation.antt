-- Translations of operators: one after the other, and those that fail alike.
pub mod Steps
pub mod Kinds
pub mod LocalsKept
pub mod Translations
pub mod Outcomes
pub mod Faults
