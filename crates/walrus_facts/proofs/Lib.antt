-- the result of each visitor over the events of a tree
pub mod Collecting
pub mod Counting
mod Gathering
mod Marks
mod FactLaws
pub mod LocalsOfTrees
pub mod Scans
-- the visits of a walk
mod Visits
-- items that are changed one after the other
mod Changes
