-- Reading a tree, its text, and the frames after a front.
pub mod ReadingTrees
pub mod ReadTexts
pub mod ReadFrames
pub mod ReadingSequences
pub mod Along
pub mod Mapped
pub mod Lifted
