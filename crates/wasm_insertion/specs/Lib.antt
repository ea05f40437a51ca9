-- operators inserted into a body, and the runs of what has them; and a body that is metered
pub mod Insertion
-- lists with whole probes, which stay valid
pub mod InsertedValidity
-- the tree of a body with inserted operators, and what is written of it
pub mod InsertedTrees
pub mod InsertedTexts
-- a tree into which a tool inserts instructions
pub mod EditedTrees
