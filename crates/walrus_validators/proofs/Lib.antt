-- an operator that is admitted or isn't
pub mod Taking
