-- numbering locals
pub mod LocalNumbering
-- numbers that fit
pub mod FittingNumbers
-- the exponent of an alignment
pub mod Exponents
-- the numbers of locals in a table, and in one whose locals are listed
pub mod NumberTables
pub mod ListedLocals
