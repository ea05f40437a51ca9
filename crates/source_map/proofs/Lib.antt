-- numbers: their bounds, and the text that is appended
pub mod Powers
pub mod Appending
-- a text that is read is an encoding, and an encoding is read: digits, fields, segments, whole texts
pub mod Steps
pub mod Digits
pub mod FieldLaws
pub mod Segments
pub mod Wholes
-- the text that is written is an encoding
pub mod Short
-- loops: over segments, and over moves
pub mod Loops
pub mod Moves
pub mod MovingTexts
-- the JSON text of a source map
pub mod Views
pub mod Pieces
pub mod Plain
pub mod ReadBack
