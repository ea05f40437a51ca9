-- location pairs in few bytes
pub mod PackedPairs
-- the same, some at a time
pub mod PackedPieces
