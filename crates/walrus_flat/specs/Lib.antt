-- the open sequences of a body that is checked, and the operators of one that is written
pub mod SequenceKinds
pub mod Controls
-- locals and their numbers
pub mod UsedMarks
pub mod UsedLocals
pub mod Checked
pub mod Checkers
pub mod CheckedBody
pub mod Written
pub mod Writers
-- bodies that a sink takes while they are written
pub mod Sinks
-- laws
pub mod Laws
-- a body that is written while it is read again
pub mod WrittenBody
-- the contract of rewriting without a tree
pub mod RewrittenFlat
-- the contract of checking without a tree
pub mod FlatChecks
