-- the errors that mean that memory ran out
pub mod Errors
-- the raw body of a tree, and why it has none
pub mod RawBodies
-- the contract of `rewrite_body`, and its relation to the source
pub mod RewrittenBodies
