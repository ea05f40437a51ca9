-- the instructions that can be inserted; the steps by which a sequence gets its new instructions
pub mod PlainInstructions
pub mod Edits
-- what is inserted at each place of a function, and the tree that the function has then
pub mod InsertedInstructions
-- a body that begins with instructions more, and what is written of it
pub mod BegunBodies
