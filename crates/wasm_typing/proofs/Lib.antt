-- every operator has a rule (`law_rules`); operators of one, two and three operands (`law_operand_numbers`)
pub mod Coverage
pub mod OperandNumbers
-- matching (`law_matching`); operators of a type, and validity (`law_typed_operators`, `law_standard_validity`)
pub mod MatchingLemmas
pub mod MatchingRules
pub mod TestedTypes
pub mod OperandLemmas
-- examples that fix the definitions
pub mod Examples
