-- results that may be faults, in every crate
pub mod ResultLemmas
-- the bounds of numbers: powers of two
pub mod Powers
-- reading agrees with encodings: a value that is read has the encoding that was taken, and an encoding is read as its value; so
-- an encoding belongs to one value
pub mod Agreement
-- the same for bits, and for every kind of number
pub mod BitsLaws
pub mod NumberLaws
-- the short paths of the code: numbers of up to five bytes; sixteen lanes
pub mod ShortNumbers
pub mod Lanes
