-- what a validator means
pub mod Checking
-- the locations of operators
pub mod Locating
-- whether the next operator is admitted
pub mod Admitting
