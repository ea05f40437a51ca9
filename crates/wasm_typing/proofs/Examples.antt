-- Examples that fix the table: types of operators by their names, and bodies that are accepted and refused.
pub mod Module
pub mod Types
pub mod Bodies
pub mod EqualTypes
