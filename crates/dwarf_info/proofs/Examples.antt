-- Examples that fix the definitions: their values for bytes that are given by hand, computed.
pub mod AbbreviationsRead
pub mod ValuesRead
pub mod UnitsRead
pub mod EffectsComputed
pub mod StepsComputed
pub mod FollowsComputed
