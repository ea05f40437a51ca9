-- The state while a body is parsed.
pub mod NextOperator
pub mod Settings
pub mod Advancing
pub mod OperatorKinds
pub mod Handlers
pub mod BodyParsers
pub mod Bodies
pub mod BodySources
-- the places of a body
pub mod Ranges
