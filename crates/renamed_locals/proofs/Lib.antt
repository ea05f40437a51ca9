-- which parts of an operator stay; validation by rules that are alike; the rules of the standard are
pub mod SameControl
mod RulesAlike
pub mod SameRules
-- examples that compute
mod Examples
-- the locals that a function declares
pub mod NumberedLocals
