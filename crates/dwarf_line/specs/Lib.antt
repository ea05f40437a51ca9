-- values one after the other, to the end of some bytes
pub mod Repeated
-- the machine: its registers, its operations, and the rows that it appends
pub mod LineProgram
-- the bytes of operations
pub mod Operations
-- what else is kept
pub mod Kept
-- where rows go
pub mod MovedRows
-- the tables of a section
pub mod LineTables
-- why a section is refused
pub mod Refusals
-- values of the code
pub mod Views
-- what the functions write
pub mod Written
