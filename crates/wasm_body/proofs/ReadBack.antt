-- The bytes of a normal form are read back.
pub mod FrameNames
pub mod Related
pub mod Spellings
pub mod Ranged
pub mod Sound
pub mod NamedAgain
pub mod PlacedBodies
pub mod ReadingBack
pub mod Undoing
pub mod OtherLocations
