-- what the types of operators depend on; equal types of a module; which types match
pub mod Contexts
pub mod RecursiveTypes
pub mod Matching
-- operands that are taken and given; the rules of plain operators, and the table of them by opcodes
pub mod Operands
pub mod Rules
pub mod RuleTable
-- conditional branches and tail calls; the rules as the parameter of the validation algorithm
pub mod StandardRules
-- the rules of matching, and that the test is them; the other laws
pub mod MatchingLaws
pub mod RuleLaws
