-- a list is the text of one body; reading a tree, and the frames after a front
pub mod Structure
-- translations of operators: one after the other, and those that fail alike; the kinds of immediates, which translations keep
pub mod Translation
-- the result of parsing on lists is the accepted body or the first fault (`law_one_result`)
pub mod Parsing
-- the text of a normal form is a body, and its normal form is the same tree; arenas and sequences that grow, for the parser
pub mod NormalForm
-- a normal form has bytes; the faults of writing it; every instruction has a row; the bytes are the same under numbers that
-- agree at the locals of the tree
pub mod Bytes
-- the bytes of a normal form are read back (`law_read_back`, `law_accepted_again`, `law_inverse_undoes`)
pub mod ReadBack
-- the numbers of locals (`law_local_numbers`)
pub mod LocalNumbers
-- the laws of executions and of locations: places from which the machine does the same, one step, each construct, and each way
-- in which the normal form rewrites
pub mod Executions
-- the law of validity
pub mod Validity
-- examples that pin the definitions: small bodies, their names, texts, pairs and runs, computed
pub mod Examples
-- what is written operator by operator is the text of the rewritten body (`law_flat`)
pub mod Flat
