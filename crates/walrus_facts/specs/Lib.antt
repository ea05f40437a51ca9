pub mod Facts
pub mod Sizes
pub mod Segments
pub mod Gathering
pub mod FactLaws
pub mod Marking
pub mod Scanning
-- the visits of the instructions of a walk
pub mod Each
-- each instruction of a function changed in its place
pub mod Mapping
