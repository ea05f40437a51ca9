-- inserted operators made into `nop`; and the law that what is inserted changes nothing else of a run
pub mod Quieted
pub mod Insertions
-- lists with probes are texts of bodies with inserted operators, and are valid; the normal form of such a body, and its text
pub mod FlatInsertions
pub mod ProbedBodies
pub mod InsertedTrees
pub mod InsertedTexts
-- and the other way round: for each tree with insertions such a body, and what is written for it
pub mod EditedTrees
pub mod EditedTexts
-- each run of a metered body is paid, and charged exactly
pub mod Metering
pub mod ExactMetering
-- examples that pin the definitions: small bodies with inserted operators, and their runs, computed
pub mod Examples
