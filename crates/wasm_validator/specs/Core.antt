-- Steps of the algorithm, as the methods of the validator take them.
use Rattle.std.specs.Prelude.{◌≡◌, ℕ, List, [], ◌∷◌, ◌++◌, Bool, nat_eq, length, if◌then◌else◌, Option, Some, None, Ok}
use Rattle.wasm_types.specs.declared.val_type.RefType.{RefType}
use Rattle.wasm_types.specs.declared.val_type.ValType.{ValType}
use Rattle.wasm_types.specs.declared.val_type.ValType.TheVariants.{I32, Ref}
use Rattle.walrus_ir.specs.Types.{Signature}
use Rattle.wasm_numbers.specs.Results.{◌>>=◌}
use Rattle.wasm_operators.specs.declared.types.BlockType.{BlockType}
use Rattle.wasm_operators.specs.declared.types.Opcode.TheVariants.{Byte}
use Rattle.wasm_operators.specs.declared.types.RawCast.{RawCast}
use Rattle.wasm_operators.specs.declared.types.Space.TheVariants.{Tags}
use Rattle.wasm_operators.specs.Immediates.{Table}
use Rattle.wasm_operators.specs.Operations.{CatchClause, operation, index, handler, branch_table}
use Rattle.wasm_body.specs.Control.{end_operation, else_operation, catch_all_operation, delegate_operation}
use Rattle.wasm_body.specs.Naming.{NamedOperation}
use Rattle.wasm_body.specs.Validity as algorithm
use Rattle.wasm_body.specs.Validity.{Stacks, ControlFrame, Checked, demand, refused, caught, tag_types, handed, label_types}
use Rattle.wasm_body.specs.ValidityLaws.{KnownOperand}
use Rattle.wasm_typing.specs.Contexts.{OperandContext}
use Rattle.wasm_typing.specs.Matching.{matches_reference, matches_values, difference}
use Rattle.wasm_typing.specs.Operands.{InstructionType, ◌⟶◌}
use Rattle.wasm_typing.specs.Rules.{ref_null}
use Rattle.wasm_typing.specs.StandardRules.{LabelParts, label_parts, reference_type, is_cast, standard_rules}
use Rattle.wasm_context.specs.Validation.{BodyContext, BodyState, typing_in, named_block_type, tag_signature, named_step}
use Rattle.wasm_validator.specs.declared.frame.Opened.{Opened}
use Rattle.wasm_validator.specs.declared.frame.Opened.TheVariants as opened
use Rattle.wasm_validator.specs.declared.state.Validator.{Validator}
use Rattle.wasm_validator.specs.States.{Known, opened_of}
use Rattle.wasm_validator.specs.Steps.{setting_of, operand_stack, stacks_of, inner_of, outer_of, open_state, labelled, pop_in, pop_all_in, typed_in, pop_control_in}

-- the step of the algorithm at a named operator
abbrev pub step_of : Validator → NamedOperation → Checked BodyState
step_of v o = named_step (setting_of v) o (open_state v)

abbrev pub open_frames : Validator → List ControlFrame
open_frames v = inner_of v ∷ outer_of v

-- the same state with other operands
abbrev pub with_stack : Validator → List Known → Stacks KnownOperand
with_stack v xs = record (stacks_of v) { operands = xs }

abbrev pub with_operand_stack : Validator → List Known → BodyState
with_operand_stack v xs = record { stacks = with_stack v xs; controls = open_frames v }

-- and where code can't be reached ("unreachable()")
abbrev pub unreachable_with : Validator → List Known → BodyState
unreachable_with v xs = algorithm.unreachable (typing_in (setting_of v)) (standard_rules (setting_of v).operands) (inner_of v) (with_stack v xs) (outer_of v)

-- ---- operators that open a construct

-- a sequence is opened by an operator with these types, from these stacks
abbrev pub begin_from : Validator → Stacks KnownOperand → Opened → Signature → Checked BodyState
begin_from v s opened t =
    algorithm.popping (typing_in (setting_of v)) (standard_rules (setting_of v).operands) (inner_of v) t.parameters s >>= λ u.
    Ok (algorithm.push_control (typing_in (setting_of v)) (standard_rules (setting_of v).operands) (opened_of opened) t.parameters t.results u (open_frames v))

abbrev pub begin_in : Validator → Opened → Signature → Checked BodyState
begin_in v opened t = begin_from v (stacks_of v) opened t

-- and with this block type: of `block`, `loop` and `try`
abbrev pub begins_in : Validator → Opened → BlockType → Checked BodyState
begins_in v opened t = named_block_type (setting_of v) t >>= begin_in v opened

-- `if`
abbrev pub begins_if_with : Validator → Signature → Checked BodyState
begins_if_with v s = pop_in (setting_of v) (inner_of v) I32 (operand_stack v) >>= λ xs. begin_from v (with_stack v xs) opened.If s

abbrev pub begins_if : Validator → BlockType → Checked BodyState
begins_if v t = named_block_type (setting_of v) t >>= begins_if_with v

-- a clause of `try_table`: its tag is there, and it hands to its label what the label takes
abbrev pub tag_there : BodyContext → Option ℕ → Checked (Unit {0})
tag_there b None = Ok tt
tag_there b (Some tag) = tag_signature b tag >>= λ s. Ok tt

-- the tag is there, and so are these types of it
abbrev pub HandsOn : BodyContext → Option ℕ → List (ValType ℕ) → Type 0
HandsOn b tag ts = (tag_there b tag ≡ Ok tt) × (tag_types (typing_in b) tag ≡ ts)

abbrev pub with_caught : Bool → List (ValType ℕ) → List (ValType ℕ)
with_caught by_reference ts = if by_reference then ts ++ caught ∷ [] else ts

abbrev pub clause_step : BodyContext → List ControlFrame → CatchClause ℕ → Checked (Unit {0})
clause_step b fs k = tag_there b k.tag >>= λ u. algorithm.labelled_frame fs k.label >>= λ d. demand (matches_values b.operands (handed (typing_in b) k) (label_types d))

abbrev pub clauses_step : BodyContext → List ControlFrame → List (CatchClause ℕ) → Checked (Unit {0})
clauses_step b fs [] = Ok tt
clauses_step b fs (k ∷ ks) = clause_step b fs k >>= λ u. clauses_step b fs ks

abbrev pub begins_try_table : Validator → BlockType → List (CatchClause ℕ) → Checked BodyState
begins_try_table v t ks = named_block_type (setting_of v) t >>= λ s. clauses_step (setting_of v) (open_frames v) ks >>= λ u. begin_in v opened.TryTable s

-- ---- operators that close and part a construct

-- The next sequence of the innermost construct, if it may follow.
abbrev pub next_in : Validator → Bool → Opened → (starts : List (ValType ℕ)) → Checked BodyState
next_in v allowed opened starts =
    pop_control_in (setting_of v) (inner_of v) (stacks_of v) >>= λ t. demand allowed >>= λ u.
    Ok (algorithm.push_control (typing_in (setting_of v)) (standard_rules (setting_of v).operands) (opened_of opened) starts (inner_of v).end_types t (outer_of v))

-- what the innermost construct gives
abbrev pub given_in : Validator → BodyState
given_in v = algorithm.given (typing_in (setting_of v)) (standard_rules (setting_of v).operands) (inner_of v).end_types (stacks_of v) (outer_of v)

abbrev pub ends_in : Validator → Checked BodyState
ends_in v = step_of v end_operation

abbrev pub elses_in : Validator → Checked BodyState
elses_in v = step_of v else_operation

abbrev pub catches_in : Validator → ℕ → Checked BodyState
catches_in v tag = tag_signature (setting_of v) tag >>= λ s. step_of v (operation (Byte 0x07) (index Tags tag ∷ []))

abbrev pub catches_all_in : Validator → Checked BodyState
catches_all_in v = step_of v catch_all_operation

abbrev pub delegates_in : Validator → ℕ → Checked BodyState
delegates_in v n = step_of v (delegate_operation n)

-- ---- branches

abbrev pub branch_in : Validator → ℕ → Checked BodyState
branch_in v n = labelled v n >>= λ d. pop_all_in (setting_of v) (inner_of v) (label_types d) (operand_stack v) >>= λ xs. Ok (unreachable_with v xs)

-- of a branch on a condition: what it takes and gives, by the types of its label
abbrev pub BranchRule : Type 0
BranchRule = List (ValType ℕ) → Checked InstructionType

abbrev pub conditional_in : Validator → ℕ → BranchRule → Checked BodyState
conditional_in v n rule =
    labelled v n >>= λ d. rule (label_types d) >>= λ t. typed_in (setting_of v) (inner_of v) t.takes t.gives (operand_stack v) >>= λ xs. Ok (with_operand_stack v xs)

abbrev pub if_rule : BranchRule
if_rule ts = Ok (ts ++ I32 ∷ [] ⟶ ts)

abbrev pub non_null_rule : BranchRule
non_null_rule ts = label_parts ts >>= λ l. Ok (l.before ++ ref_null l.last.heap_type ∷ [] ⟶ l.before)

abbrev pub reference_rule : OperandContext → (from to branches stays : RefType ℕ) → BranchRule
reference_rule c from to branches stays ts =
    is_cast c from to >>= λ u. label_parts ts >>= λ l. demand (matches_reference c branches l.last) >>= λ w. Ok (l.before ++ Ref from ∷ [] ⟶ l.before ++ Ref stays ∷ [])

-- `br_on_cast` and `br_on_cast_fail`
abbrev pub cast_in : Validator → RawCast → Checked BodyState
cast_in v k =
    let from = reference_type k.from_nullable k.source in
    let to = reference_type k.to_nullable k.target in
    conditional_in v k.label (reference_rule (setting_of v).operands from to to (difference from to))

abbrev pub cast_fail_in : Validator → RawCast → Checked BodyState
cast_fail_in v k =
    let from = reference_type k.from_nullable k.source in
    let to = reference_type k.to_nullable k.target in
    conditional_in v k.label (reference_rule (setting_of v).operands from to (difference from to) to)

abbrev pub last_and_before : List (ValType ℕ) → RefType ℕ → LabelParts
last_and_before ts r = record { before = ts; last = r }

-- what is left of the function
abbrev pub leaves_with : Validator → List (ValType ℕ) → Checked BodyState
leaves_with v ts = pop_all_in (setting_of v) (inner_of v) ts (operand_stack v) >>= λ xs. Ok (unreachable_with v xs)

-- "pop_vals", of which only is known whether it is refused
abbrev pub holds_from : Validator → List Known → List (ValType ℕ) → Checked (Unit {0})
holds_from v ys ts = pop_all_in (setting_of v) (inner_of v) ts ys >>= λ xs. Ok tt

abbrev pub holds_in : Validator → List (ValType ℕ) → Checked (Unit {0})
holds_in v ts = holds_from v (operand_stack v) ts

-- a target of `br_table`, whose default has so many types
abbrev pub target_step : Validator → ℕ → ℕ → Checked (Unit {0})
target_step v arity n = labelled v n >>= λ d. demand (nat_eq (length (label_types d)) arity) >>= λ u. holds_in v (label_types d)

abbrev pub targets_in : Validator → ℕ → List ℕ → Checked (Unit {0})
targets_in v arity [] = Ok tt
targets_in v arity (n ∷ ns) = target_step v arity n >>= λ u. targets_in v arity ns

abbrev pub table_in : Validator → Table → Checked BodyState
table_in v t = step_of v (operation (Byte 0x0e) (branch_table t.0 t.1 ∷ []))

abbrev pub rethrows_in : Validator → ℕ → Checked BodyState
rethrows_in v n = step_of v (operation (Byte 0x09) (handler n ∷ []))

-- `throw`
abbrev pub throws_in : Validator → ℕ → Checked BodyState
throws_in v tag = tag_signature (setting_of v) tag >>= λ s. step_of v (operation (Byte 0x08) (index Tags tag ∷ []))

-- tail calls, by the type of the call
abbrev pub tail_in : Validator → Checked InstructionType → Checked BodyState
tail_in v type =
    type >>= λ t. demand (matches_values (setting_of v).operands t.gives (algorithm.results (open_frames v))) >>= λ u. leaves_with v t.takes
