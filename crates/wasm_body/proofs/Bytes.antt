-- Normal forms have bytes: the types that their operators name, and their numbers.
pub mod Openers
pub mod BlockTypes
pub mod Picks
pub mod LawfulTyped
pub mod WritableTexts
pub mod ClauseKinds
pub mod Fitting
pub mod NumberedBodies
pub mod Faults
pub mod OtherLocals
pub mod EveryInstruction
