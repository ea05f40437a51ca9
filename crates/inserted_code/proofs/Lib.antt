-- what is written for bodies into which a tool inserts instructions
pub mod WrittenCode
-- charges of the right types are probes
pub mod ChargeTypes
