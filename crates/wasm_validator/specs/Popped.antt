-- Operands that are popped, whatever their types.
use Rattle.std.specs.Prelude.{◌≡◌, ℕ, List, [], ◌∷◌, length, nat_eq, if◌then◌else◌, Result, Ok, Err}
use Rattle.wasm_types.specs.declared.val_type.AbstractHeapType.{AbstractHeapType}
use Rattle.wasm_types.specs.declared.val_type.HeapType.TheVariants.{Abstract}
use Rattle.wasm_types.specs.declared.val_type.ValType.TheVariants.{I32, Ref}
use Rattle.wasm_numbers.specs.Results.{◌>>=◌}
use Rattle.wasm_body.specs.Validity as algorithm
use Rattle.wasm_body.specs.Validity.{ControlFrame, Checked, demand, refused}
use Rattle.wasm_body.specs.ValidityLaws.{KnownOperand, of_type, of_reference}
use Rattle.wasm_typing.specs.Matching.{matches_known}
use Rattle.wasm_typing.specs.Operands.{Popped, PoppedReference, as_reference, may_be_null, not_null, may_be_number, one_of}
use Rattle.wasm_typing.specs.Rules.{ref_null, reference_to}
use Rattle.wasm_context.specs.Validation.{BodyState}
use Rattle.wasm_validator.specs.declared.fault.Fault.{Fault}
use Rattle.wasm_validator.specs.declared.fault.Fault.TheVariants as fault
use Rattle.wasm_validator.specs.declared.operand.Operand.{Operand}
use Rattle.wasm_validator.specs.declared.operand.Reference.{Reference}
use Rattle.wasm_validator.specs.declared.operand.Reference.TheVariants as reference
use Rattle.wasm_validator.specs.declared.state.Validator.{Validator}
use Rattle.wasm_validator.specs.States.{Known, known_of, of_value}
use Rattle.wasm_validator.specs.Steps.{setting_of, operand_stack, inner_of, pop_in}
use Rattle.wasm_validator.specs.Plain.{stacks_with, state_with_stacks}

abbrev pub popped : Known → List Known → Popped
popped x xs = record { operand = x; below = xs }

abbrev pub topmost : List Known → Checked Popped
topmost [] = Err refused
topmost (x ∷ xs) = Ok (popped x xs)

-- "pop_val()" in the frame f
abbrev pub any_in : ControlFrame → List Known → Checked Popped
any_in f xs = if nat_eq (length xs) f.height then (demand f.unreachable >>= λ u. Ok (popped algorithm.Unknown xs)) else topmost xs

-- The operand was popped, and leaves these; or memory ran out.
abbrev pub PopsOperand : Checked Popped → Result Operand Fault → List Known → Type 0
PopsOperand want (Ok x) below = want ≡ Ok (popped (known_of x) below)
PopsOperand want (Err fault.Refused) below = want ≡ Err refused
PopsOperand want (Err fault.Memory) below = Unit {0}

-- ---- references

abbrev pub known_reference : Reference → KnownOperand
known_reference (reference.Typed r) = of_type (Ref r)
known_reference (reference.Untyped nullable) = of_reference nullable

abbrev pub popped_reference : KnownOperand → List Known → PoppedReference
popped_reference r xs = record { reference = r; below = xs }

-- "pop_ref()" in the frame f
abbrev pub reference_in : ControlFrame → List Known → Checked PoppedReference
reference_in f xs = any_in f xs >>= λ q. as_reference q.operand >>= λ r. Ok (popped_reference r q.below)

-- The reference was popped, and leaves these; or memory ran out.
abbrev pub PopsReference : Checked PoppedReference → Result Reference Fault → List Known → Type 0
PopsReference want (Ok r) below = want ≡ Ok (popped_reference (known_reference r) below)
PopsReference want (Err fault.Refused) below = want ≡ Err refused
PopsReference want (Err fault.Memory) below = Unit {0}

-- ---- operators

-- the state with these operands
abbrev pub leaving_in : Validator → List Known → BodyState
leaving_in v xs = state_with_stacks v (stacks_with v [] xs)

-- `drop`
abbrev pub drops_in : Validator → Checked BodyState
drops_in v = any_in (inner_of v) (operand_stack v) >>= λ q. Ok (leaving_in v q.below)

-- `select`, of two operands
abbrev pub picks_in : Validator → Popped → Popped → Checked BodyState
picks_in v x y =
    demand (may_be_number x.operand) >>= λ u. demand (may_be_number y.operand) >>= λ w. one_of x.operand y.operand >>= λ z. Ok (leaving_in v (z ∷ y.below))

abbrev pub selects_in : Validator → Checked BodyState
selects_in v =
    pop_in (setting_of v) (inner_of v) I32 (operand_stack v) >>= λ k. any_in (inner_of v) k >>= λ x. any_in (inner_of v) x.below >>= picks_in v x

-- `ref.is_null`
abbrev pub tests_null_in : Validator → Checked BodyState
tests_null_in v = reference_in (inner_of v) (operand_stack v) >>= λ q. Ok (leaving_in v (of_value I32 ∷ q.below))

-- `ref.as_non_null`
abbrev pub non_null_in : Validator → Checked BodyState
non_null_in v = reference_in (inner_of v) (operand_stack v) >>= λ q. Ok (leaving_in v (algorithm.Known (not_null q.reference) ∷ q.below))

-- `any.convert_extern` and `extern.convert_any`
abbrev pub converts_in : Validator → (from to : AbstractHeapType) → Checked BodyState
converts_in v from to =
    reference_in (inner_of v) (operand_stack v) >>= λ q. demand (matches_known (setting_of v).operands q.reference (ref_null (Abstract from))) >>= λ u.
    Ok (leaving_in v (of_value (reference_to (may_be_null q.reference) (Abstract to)) ∷ q.below))
