-- what is written for the bodies of a module into which a tool inserts instructions
pub mod InsertedCode
-- the types of charges
pub mod ChargeTypes
