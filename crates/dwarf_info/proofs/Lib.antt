-- values up to what ends them
pub mod Reading
pub mod Lengths
-- looking up
pub mod Search
-- abbreviations
pub mod Declarations
pub mod Tables
-- entries, and their steps
pub mod AttributesRead
pub mod WithoutLocals
pub mod Stepping
pub mod Taking
pub mod OtherBytes
pub mod FollowLemmas
-- values for given bytes
pub mod Examples
