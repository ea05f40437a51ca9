-- numbers and distances that are read back, and pairs that are packed alike
pub mod PackedPairs
-- the pairs that any bytes are, if they are packed pairs
pub mod UnpackedPairs
