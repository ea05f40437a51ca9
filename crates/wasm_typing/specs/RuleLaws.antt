-- Laws of the table of rules, of matching, and of the instance.
use Rattle.std.specs.Prelude.{◌≡◌, ◌↔◌, ℕ, List, [], ◌∷◌, ◌++◌, length, map, Bool, true, false, ◌&&◌, Option, Some, is_some, Ok, Err}
use Rattle.std.specs.List.{AllByRecursion}
use Rattle.wasm_types.specs.declared.binary.BinaryOp.{BinaryOp}
use Rattle.wasm_types.specs.declared.ternary.TernaryOp.{TernaryOp}
use Rattle.wasm_types.specs.declared.unary.UnaryOp.{UnaryOp}
use Rattle.wasm_types.specs.declared.val_type.ValType.{ValType}
use Rattle.wasm_numbers.specs.Results.{◌>>=◌}
use Rattle.wasm_operators.specs.declared.types.Opcode.{Opcode}
use Rattle.wasm_operators.specs.BinaryOperations.{binary_operation}
use Rattle.wasm_operators.specs.Opcodes.{kinds_of}
use Rattle.wasm_operators.specs.TernaryOperations.{ternary_operation}
use Rattle.wasm_operators.specs.UnaryOperations.{unary_operation}
use Rattle.wasm_body.specs.Control.{Plain, Role, a_plain, a_conditional_branch, a_tail_call, role_of}
use Rattle.wasm_body.specs.FunctionTree.{FunctionTree}
use Rattle.wasm_body.specs.Naming.{Environment, NamedOperation, Occurrence}
use Rattle.wasm_body.specs.NormalForm.{Typing, typing_of, name_at, body_tree}
use Rattle.wasm_body.specs.Parsing.Accepted.{HasSpelling, Lawful}
use Rattle.wasm_body.specs.SourceTree.{Body}
use Rattle.wasm_body.specs.TextLaws.{IsTextOf}
use Rattle.wasm_body.specs.Translation.{Located}
use Rattle.wasm_body.specs.Validity.{ControlFrame, Stacks, Checked, refused, set_locals, pop_all, push_each, taken}
use Rattle.wasm_body.specs.ValidityLaws.{KnownOperand}
use Rattle.wasm_typing.specs.Contexts.{OperandContext}
use Rattle.wasm_typing.specs.Matching.{matches_value}
use Rattle.wasm_typing.specs.Operands.{InstructionType, Operands}
use Rattle.wasm_typing.specs.Rules.{Immediates, Rule, by_type}
use Rattle.wasm_typing.specs.RuleTable.{rule_of}
use Rattle.wasm_typing.specs.StandardRules.{conditional_rule, tail_rule, standard_rules, IsValidBody, is_valid_body}

-- ---- every operator has a rule

abbrev pub is_plain : Role → Bool
is_plain a_plain = true
is_plain _ = false

abbrev pub is_conditional : Role → Bool
is_conditional a_conditional_branch = true
is_conditional _ = false

abbrev pub is_tail_call : Role → Bool
is_tail_call a_tail_call = true
is_tail_call _ = false

-- The opcodes that have a rule are those of the supported operators that are plain, and no others.
abbrev pub PlainHaveRules : Type 0
PlainHaveRules = (o : Opcode) → is_some (rule_of o) ≡ (is_some (kinds_of o) && is_plain (role_of o))

-- So it is with conditional branches and with tail calls.
abbrev pub ConditionalsHaveRules : Type 0
ConditionalsHaveRules = (o : Opcode) → is_some (conditional_rule o) ≡ is_conditional (role_of o)

abbrev pub TailCallsHaveRules : Type 0
TailCallsHaveRules = (o : Opcode) → is_some (tail_rule o) ≡ is_tail_call (role_of o)

-- ---- operators of one, two and three operands

abbrev pub type_by : OperandContext → Immediates → Option Rule → Checked InstructionType
type_by c is (Some (by_type rule)) = rule c is
type_by c is _ = Err refused

-- the type of an operator, if its rule gives one
abbrev pub type_of_operator : OperandContext → NamedOperation → Checked InstructionType
type_of_operator c o = type_by c o.immediates (rule_of o.opcode)

-- It takes so many operands and gives one. Only an operator with an immediate, a lane, may be refused.
abbrev pub TakesNumber : ℕ → Immediates → Checked InstructionType → Type 0
TakesNumber n is (Ok t) = (length t.takes ≡ n) × (length t.gives ≡ 1)
TakesNumber n [] (Err e) = ⊥
TakesNumber n (i ∷ is) (Err e) = Unit {0}

abbrev pub HasNumber : ℕ → OperandContext → NamedOperation → Type 0
HasNumber n c o = TakesNumber n o.immediates (type_of_operator c o)

abbrev pub UnaryTakeOne : Type 0
UnaryTakeOne = (c : OperandContext) (op : UnaryOp) → HasNumber 1 c (unary_operation op)

abbrev pub BinaryTakeTwo : Type 0
BinaryTakeTwo = (c : OperandContext) (op : BinaryOp) → HasNumber 2 c (binary_operation op)

abbrev pub TernaryTakeThree : Type 0
TernaryTakeThree = (c : OperandContext) (op : TernaryOp) → HasNumber 3 c (ternary_operation op)

-- ---- matching

-- each type matches itself; the rules of matching are in `MatchingLaws.antt`
abbrev pub MatchesItself : Type 0
MatchesItself = (c : OperandContext) (t : ValType ℕ) → matches_value c t t ≡ true

-- ---- an operator of a type pops what it takes and pushes what it gives

abbrev pub stacks : Operands → List ℕ → Stacks KnownOperand
stacks xs ls = record { operands = xs; initialised = ls }

-- What the algorithm does at a plain operator of the type t1* ->x* t2*, in a frame f: "pop_vals(t1*); push_vals(t2*)", and the locals x* are
-- initialised. The operands above the height of the frame are xs, and those below it are ys.
abbrev pub TypedOperators : Type 0
TypedOperators =
    (m : Typing) (c : OperandContext) (o : NamedOperation) (t : InstructionType) → type_of_operator c o ≡ Ok t →
    (f : ControlFrame) (fs : List ControlFrame) (xs ys : Operands) (ls : List ℕ) → f.height ≡ length ys →
    taken m (standard_rules c) Plain o f fs (stacks (xs ++ ys) ls)
    ≡ (pop_all m (standard_rules c) f t.takes (xs ++ ys) >>= λ zs. Ok (stacks (push_each m (standard_rules c) t.gives zs) (set_locals t.initialises ls)))

-- ---- validity is decided by the test

abbrev pub ValidityIsTested : Type 0
ValidityIsTested =
    (m : Typing) (c : OperandContext) (arguments : List ℕ) (results : List (ValType ℕ)) (xs : List (Located NamedOperation)) →
    (is_valid_body m c arguments results xs ≡ true) ↔ IsValidBody m c arguments results xs

-- ---- what was valid by the rules of the standard stays valid

-- The tree has a text, which is valid where these operators are, in each function of a module.
pub record HasStandardText (m : Typing) (tree : FunctionTree) (xs : List (Located NamedOperation)) : Type 0 where
  pub text : List (Located NamedOperation)
  pub is_text : IsTextOf m tree text
  pub stays_valid : (c : OperandContext) (arguments : List ℕ) (results : List (ValType ℕ)) → IsValidBody m c arguments results xs
      → IsValidBody m c arguments results text

abbrev pub StandardValidityKept : Type 0
StandardValidityKept =
    (env : Environment) (xs : List Occurrence) (b : Body Occurrence) → AllByRecursion HasSpelling xs → Lawful env xs b →
    HasStandardText (typing_of env) (body_tree env b) (map name_at xs)
