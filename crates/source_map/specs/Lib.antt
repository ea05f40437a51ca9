-- how a mapping is encoded, and lists of them
pub mod Vlq
pub mod Spelling
-- reading a text from left to right, with the first fault
pub mod Reading
-- the one text that is written
pub mod Shortest
-- mappings of a program whose operators have moved
pub mod Moving
pub mod MovingText
-- which JSON texts are source maps
pub mod SourceMaps
-- why a text is refused
pub mod Errors
pub mod Refusals
-- the JSON text that is written, and its tokens
pub mod WrittenSourceMaps
pub mod Tokens
