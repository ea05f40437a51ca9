-- Open sequences, and their normal form so far.
pub mod OpenConstructs
pub mod OpenFrames
pub mod OpenTrees
pub mod FrameStacks
pub mod Keeping
pub mod Placing
