-- Writing a function's tree: the state after each event of the walk.
pub mod Emitters
pub mod Visiting
pub mod Trees
