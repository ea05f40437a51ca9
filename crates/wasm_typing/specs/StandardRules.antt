-- The rules of the standard for operands, as an instance of the parameter of the validation algorithm (WebAssembly core specification 3.0,
-- section 3.4, and the appendix).
use Rattle.std.specs.Prelude.{ℕ, List, [], ◌∷◌, ◌++◌, Bool, true, false, ◌==◌, if◌then◌else◌, Option, None, is_some, Ok, Err}
use Rattle.std.specs.Result.{result_ok}
use Rattle.wasm_types.specs.declared.val_type.HeapType.{HeapType}
use Rattle.wasm_types.specs.declared.val_type.RefType.{RefType}
use Rattle.wasm_types.specs.declared.val_type.ValType.{ValType}
use Rattle.wasm_types.specs.declared.val_type.ValType.TheVariants.{I32, Ref}
use Rattle.wasm_numbers.specs.Results.{◌>>=◌}
use Rattle.wasm_operators.specs.declared.types.Opcode.{Opcode}
use Rattle.wasm_operators.specs.declared.types.Opcode.TheVariants.{Byte, Prefixed}
use Rattle.wasm_operators.specs.Operations.{cast}
use Rattle.wasm_operators.specs.Types.{row_at}
use Rattle.wasm_body.specs.Translation.{Located}
use Rattle.wasm_body.specs.Naming.{NamedOperation}
use Rattle.wasm_body.specs.NormalForm.{Typing}
use Rattle.wasm_body.specs.Validity.{Known, Point, Change, OperandRules, Checked, refused, demand, required, IsValid, ControlFrame, State, start, validate}
use Rattle.wasm_body.specs.ValidityLaws.{KnownOperand, of_type}
use Rattle.wasm_typing.specs.Contexts.{OperandContext, initial_locals}
use Rattle.wasm_typing.specs.Matching.{matches_reference, matches_values, matches_known, is_valid_heap, difference}
use Rattle.wasm_typing.specs.Operands.{InstructionType, ◌⟶◌, with_operand_list, typed, pop_reference, not_null}
use Rattle.wasm_typing.specs.Rules.{Immediates, Rule, by_type, by_point, ref_null, of_index, of_indices, call, call_ref, call_indirect}
use Rattle.wasm_typing.specs.RuleTable.{rule_of}

-- ---- plain operators

abbrev pub by_rule : OperandContext → Rule → Immediates → Point KnownOperand → Checked (Change KnownOperand)
by_rule c (by_type rule) is p = rule c is >>= λ t. typed c t p
by_rule c (by_point rule) is p = rule c is p

abbrev pub plain_change : OperandContext → NamedOperation → Point KnownOperand → Checked (Change KnownOperand)
plain_change c o p = required (rule_of o.opcode) >>= λ rule. by_rule c rule o.immediates p

-- ---- conditional branches, to a label of the types ts

abbrev pub ConditionalRule : Type 0
ConditionalRule = OperandContext → Immediates → List (ValType ℕ) → Point KnownOperand → Checked (Change KnownOperand)

-- br_if l : t* i32 -> t*
abbrev pub branch_if : ConditionalRule
branch_if c is ts p = typed c (ts ++ I32 ∷ [] ⟶ ts) p

-- br_on_null l : t* (ref null ht) -> t* (ref ht)
abbrev pub branch_on_null : ConditionalRule
branch_on_null c is ts p =
    pop_reference p >>= λ q. typed c (ts ⟶ ts) (with_operand_list p q.below) >>= λ k. Ok (record k { operands = Known (not_null q.reference) ∷ k.operands })

-- the last type of a label, which has to be a reference, and those before it
pub record LabelParts : Type 0 where
  pub before : List (ValType ℕ)
  pub last : RefType ℕ

abbrev pub label_parts : List (ValType ℕ) → Checked LabelParts
label_parts [] = Err refused
label_parts (Ref r ∷ []) = Ok (record { before = []; last = r })
label_parts (t ∷ []) = Err refused
label_parts (t ∷ u ∷ us) = label_parts (u ∷ us) >>= λ l. Ok (record l { before = t ∷ l.before })

-- br_on_non_null l : t* (ref null ht) -> t*, where the types of the label are t* (ref null? ht)
abbrev pub branch_on_non_null : ConditionalRule
branch_on_non_null c is ts p = label_parts ts >>= λ l. typed c (l.before ++ ref_null l.last.heap_type ∷ [] ⟶ l.before) p

abbrev pub reference_type : Bool → HeapType ℕ → RefType ℕ
reference_type nullable h = record { nullable = nullable; heap_type = h }

-- "rt2 <= rt1", and both are valid
abbrev pub is_cast : OperandContext → (rt1 rt2 : RefType ℕ) → Checked (Unit {0})
is_cast c rt1 rt2 =
    demand (is_valid_heap c rt1.heap_type) >>= λ u. demand (is_valid_heap c rt2.heap_type) >>= λ v. demand (matches_reference c rt2 rt1)

-- t* rt1 -> t* stays, where the types of the label are t* rt and branches <= rt
abbrev pub branch_on_reference : OperandContext → (rt1 branches stays : RefType ℕ) → List (ValType ℕ) → Point KnownOperand → Checked (Change KnownOperand)
branch_on_reference c rt1 branches stays ts p =
    label_parts ts >>= λ l. demand (matches_reference c branches l.last) >>= λ u. typed c (l.before ++ Ref rt1 ∷ [] ⟶ l.before ++ Ref stays ∷ []) p

-- br_on_cast l rt1 rt2 : t* rt1 -> t* (rt1 \ rt2), where the types of the label are t* rt and rt2 <= rt
abbrev pub branch_on_cast : ConditionalRule
branch_on_cast c (cast k ∷ []) ts p =
    let rt1 = reference_type k.from_nullable k.source in
    let rt2 = reference_type k.to_nullable k.target in
    is_cast c rt1 rt2 >>= λ u. branch_on_reference c rt1 rt2 (difference rt1 rt2) ts p
branch_on_cast c _ ts p = Err refused

-- br_on_cast_fail l rt1 rt2 : t* rt1 -> t* rt2, where the types of the label are t* rt and rt1 \ rt2 <= rt
abbrev pub branch_on_cast_fail : ConditionalRule
branch_on_cast_fail c (cast k ∷ []) ts p =
    let rt1 = reference_type k.from_nullable k.source in
    let rt2 = reference_type k.to_nullable k.target in
    is_cast c rt1 rt2 >>= λ u. branch_on_reference c rt1 (difference rt1 rt2) rt2 ts p
branch_on_cast_fail c _ ts p = Err refused

abbrev pub byte_branches : List (ℕ × ConditionalRule)
byte_branches = (0x0d, branch_if) ∷ (0xd5, branch_on_null) ∷ (0xd6, branch_on_non_null) ∷ []

abbrev pub cast_branches : List (ℕ × ConditionalRule)
cast_branches = (24, branch_on_cast) ∷ (25, branch_on_cast_fail) ∷ []

abbrev pub conditional_rule : Opcode → Option ConditionalRule
conditional_rule (Byte b) = row_at byte_branches b
conditional_rule (Prefixed prefix n) = if prefix == 0xfb then row_at cast_branches n else None

abbrev pub conditional_change : OperandContext → NamedOperation → List (ValType ℕ) → Point KnownOperand → Checked (Change KnownOperand)
conditional_change c o ts p = required (conditional_rule o.opcode) >>= λ rule. rule c o.immediates ts p

-- ---- tail calls: t3* t1* -> t4*, where t1* -> t2* is the type of the call, and t2* <= the results of the function

abbrev pub TailRule : Type 0
TailRule = OperandContext → Immediates → Checked InstructionType

abbrev pub tail_rows : List (ℕ × TailRule)
tail_rows = (0x12, of_index call) ∷ (0x13, of_indices call_indirect) ∷ (0x15, of_index call_ref) ∷ []

abbrev pub tail_rule : Opcode → Option TailRule
tail_rule (Byte b) = row_at tail_rows b
tail_rule (Prefixed prefix n) = None

abbrev pub tail_change : OperandContext → NamedOperation → (results : List (ValType ℕ)) → Point KnownOperand → Checked (Change KnownOperand)
tail_change c o results p =
    required (tail_rule o.opcode) >>= λ rule. rule c o.immediates >>= λ t. demand (matches_values c t.gives results) >>= λ u. typed c (t.takes ⟶ []) p

-- ---- the instance

abbrev pub standard_rules : OperandContext → OperandRules KnownOperand
standard_rules c = record {
  type_of = λ t. of_type t;
  matches = matches_known c;
  plain = λ o p. result_ok (plain_change c o p);
  conditional = λ o ts p. result_ok (conditional_change c o ts p);
  tail_call = λ o results p. is_some (result_ok (tail_change c o results p));
}

-- The operators are valid as the body of a function with these arguments and results.
abbrev pub IsValidBody : Typing → OperandContext → (arguments : List ℕ) → (results : List (ValType ℕ)) → List (Located NamedOperation) → Type 0
IsValidBody m c arguments results xs = IsValid m (standard_rules c) results (initial_locals c arguments) xs

-- The same as a test: no operator is refused, and the last closes the function's frame.
abbrev pub has_no_frames : List ControlFrame → Bool
has_no_frames [] = true
has_no_frames (c ∷ cs) = false

abbrev pub closes_all : Checked (State KnownOperand) → Bool
closes_all (Ok s) = has_no_frames s.controls
closes_all (Err e) = false

abbrev pub is_valid_body : Typing → OperandContext → (arguments : List ℕ) → (results : List (ValType ℕ)) → List (Located NamedOperation) → Bool
is_valid_body m c arguments results xs = closes_all (validate m (standard_rules c) xs (start m (standard_rules c) results (initial_locals c arguments)))
