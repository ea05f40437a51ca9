-- what is written is read
pub mod Written
-- an entry is read whatever follows it
pub mod Frames
-- lists, entry by entry
pub mod Loop
