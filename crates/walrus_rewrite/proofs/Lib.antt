-- a result is one value, which the tests use
pub mod SameResults
-- the raw body of a function: a normal form has no more instructions than bytes; the bytes of the parts, and the end of the
-- pairs; why the tree of a parsed body has no raw body; the appended bytes are those of the accepted body, and execute as its
-- source does
pub mod Counts
pub mod RawBodyLemmas
pub mod ParsedBodies
pub mod RewrittenLemmas
-- a pair found by its place
pub mod PairLookups
