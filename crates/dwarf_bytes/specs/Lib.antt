-- faults of DWARF, of those of numbers
pub mod Faults
-- how numbers are read
pub mod Numbers
-- how they are written
pub mod Writing
-- parts of a section that are replaced
pub mod Changes
pub mod Patches
pub mod Order
pub mod Merging
-- lists by ascending keys
pub mod Sorting
-- addresses by index
pub mod Addresses
pub mod Uses
