-- the validation algorithm over operators as they are encoded, and its law
pub mod Validation
pub mod ValidationLaws
-- valid definitions of types
pub mod ValidTypes
-- contexts, as the code has them
pub mod Contexts
-- lists of types that a context gives, and the types of blocks
pub mod TypeLists
-- types as they are declared, and keys of groups of them
pub mod Declarations
-- what the builder of a module's types has
pub mod Definitions
