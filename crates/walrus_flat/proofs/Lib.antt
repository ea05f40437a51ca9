-- an operator with numbers is its name with numbers
pub mod Renumbered
-- the parts of an operator are checked as they are named
pub mod CheckingAlike
-- operators without parts that may be missing
pub mod NoParts
-- a body that is checked so far
pub mod CheckedFronts
-- what a cursor passes
pub mod Cursors
-- what parsing the operators gives
pub mod Accepting
-- an accepted body that is read again
pub mod WrittenFronts
-- a raw body from its parts
pub mod RawBodies
-- the numbers of locals
pub mod NumberedLocals
pub mod UsedLocals
-- one operator that is checked: those that part or close a construct, and all others; and the operators of a body so far
pub mod CheckedOperators
pub mod CheckedSteps
pub mod CheckedClosings
pub mod CheckerSteps
pub mod CheckerOperators
pub mod CheckerAtOnce
pub mod CheckedControls
pub mod CheckedBodies
pub mod CheckedLoop
-- what is written aside
pub mod Drafts
pub mod SinkLemmas
-- the steps of the writer
pub mod WriterSteps
pub mod WriterOperators
pub mod WriterAtOnce
pub mod WriterShort
pub mod WriterControls
-- types of sequences that are written as one byte
pub mod TypeBytes
-- the operators of a body that is written so far
pub mod WrittenLoop
-- a body that was checked, with the function's own type
pub mod CheckedWhole
pub mod FlatChecks
-- a body that was checked and written
pub mod FlatBodies
pub mod FlatResults
-- both ways of rewriting append the same
pub mod SameResults
