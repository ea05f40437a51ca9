-- an environment and a context of the same module
pub mod SharedModules
-- what is written of a valid body, and the law that it is valid
pub mod WrittenCode
-- bodies that are accepted with the algorithm as their validator
pub mod ValidatedBodies
