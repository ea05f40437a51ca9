-- results that may be faults, from left to right, in every crate
pub mod Results
-- encodings and readers in general, and the ways to combine them
pub mod Reading
-- those of numbers: integers in LEB128, bits, bytes and lanes
pub mod Numbers
