-- operators between bytes and trees: what they do to the control flow, translations between levels, their names and rules
pub mod Control
pub mod Translation
pub mod Naming
-- structured control: the grammar of bodies, and the frames around an operator
pub mod SourceTree
pub mod Frames
-- accepted bodies and first faults: the relations, parsing on lists, and the laws that connect both
pub mod Parsing
-- the tree of a function, by operators; the operator of each instruction; the tree in a builder; the normal form; the tree of
-- the operators that are written; unreachable sequences; typed operators; slots in walk order
pub mod FunctionTree
pub mod InstructionTable
pub mod TreeOfFunction
pub mod NormalForm
pub mod RewrittenTree
pub mod Keeping
pub mod Typed
pub mod Intervals
-- the text of a tree, its bytes and location pairs; the laws of texts; reading back
pub mod FlatText
pub mod Bytes
pub mod Pairs
pub mod TextLaws
pub mod ReadBack
-- the numbers of a function's locals, and their declarations; why the result of a parse can't be written
pub mod LocalNumbers
pub mod EmissionFaults
-- the trace machine; runs by place; the laws that executions stay the same, and that locations are right along them
pub mod Machine
pub mod Places
pub mod ExecutionLaws
pub mod LocationLaws
-- the names of errors, as programs print them
pub mod ErrorNames
-- the validation algorithm, and the law that validity is kept
pub mod Validity
pub mod ValidityLaws
-- what is written of a body, operator by operator, without its tree
pub mod Flat
-- and the laws that it is what is written of its tree
pub mod FlatLaws
