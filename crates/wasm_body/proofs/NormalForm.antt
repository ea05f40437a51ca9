-- Normal forms and their texts.
pub mod KeepingLemmas
pub mod ArenaLemmas
pub mod Exponents
pub mod Kept
pub mod KeptNames
pub mod Rewritten
pub mod WrittenTexts
pub mod NamedTexts
pub mod NormalAgain
pub mod ByNames
pub mod SameTexts
