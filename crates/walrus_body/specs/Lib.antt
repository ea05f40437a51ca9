-- the value of a function; its entry and its sequences
pub mod FunctionParts
pub mod LocalFunctions
-- the contract of `emit_instructions`; the effect of writing a part on its context
pub mod EmittedInstructions
pub mod Emitting
