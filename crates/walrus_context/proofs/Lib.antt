pub mod FrameStacks
pub mod TreeChanges
pub mod LastClauses
pub mod FoundLocals
