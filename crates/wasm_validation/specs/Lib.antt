-- bodies that are valid, and the first fault of others
pub mod BodyValidation
-- what the loop over a body does
pub mod Taking
-- the meaning of the validator of a body
pub mod BodyChecks
-- laws of these
pub mod ValidationVerdicts
