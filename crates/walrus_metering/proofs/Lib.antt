-- tables of costs; items that are changed one after the other
pub mod Tables
pub mod Slots
-- the steps by which a sequence gets its charges
pub mod Steps
-- the tree of a metered function; the normal form of a metered body; both are the same
pub mod PaidItems
pub mod ChargedBodies
pub mod MeteredFunctions
-- each operator of a metered body; its runs; a valid body with charges is valid; and what is written of it
pub mod EachCharged
pub mod ChargedRuns
pub mod ProbedCharges
pub mod MeteredTexts
