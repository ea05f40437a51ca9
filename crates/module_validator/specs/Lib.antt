-- the validity of code, as a function of its bytes, and the verdict of the validator of bodies
pub mod CodeValidity
pub mod CodeVerdicts
-- constant expressions
pub mod ConstantRules
-- the parts of a module, and the whole
pub mod ModuleRules
-- limits of engines, which are no part of validity
pub mod EngineLimits
-- what the results of the code mean
pub mod Checks
