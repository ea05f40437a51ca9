-- what operators cost, and how it is charged
pub mod OperatorCosts
pub mod Charges
-- instructions with a charge before each straight piece
pub mod MeteredInstructions
-- the tree of such a function, and how it runs
pub mod MeteredTrees
pub mod ChargedRuns
-- and what is written of it
pub mod MeteredTexts
