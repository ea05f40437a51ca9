pub mod NumberMaps
pub mod EmittedLocals
pub mod NumberTables
