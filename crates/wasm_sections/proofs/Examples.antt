-- Examples that fix the definitions: their values for modules and parts that are given by hand, computed.
pub mod FunctionReferences
pub mod PartsRead
pub mod WholeModules
