-- `br_on_null`.
use Rattle.std.specs.Prelude.{ℕ, List, ◌∷◌, Ok}
use Rattle.wasm_types.specs.declared.val_type.ValType.{ValType}
use Rattle.wasm_numbers.specs.Results.{◌>>=◌}
use Rattle.wasm_body.specs.Validity as algorithm
use Rattle.wasm_body.specs.Validity.{Checked, label_types}
use Rattle.wasm_typing.specs.Operands.{PoppedReference, not_null}
use Rattle.wasm_context.specs.Validation.{BodyState}
use Rattle.wasm_validator.specs.declared.state.Validator.{Validator}
use Rattle.wasm_validator.specs.Steps.{setting_of, operand_stack, inner_of, labelled, typed_in}
use Rattle.wasm_validator.specs.Core.{with_operand_stack}
use Rattle.wasm_validator.specs.Popped.{reference_in}

-- after the reference was popped: the types of the label are popped and pushed, and then the reference, which isn't null
abbrev pub null_then : Validator → List (ValType ℕ) → PoppedReference → Checked BodyState
null_then v ts q =
    typed_in (setting_of v) (inner_of v) ts ts q.below >>= λ xs. Ok (with_operand_stack v (algorithm.Known (not_null q.reference) ∷ xs))

abbrev pub null_branch_in : Validator → ℕ → Checked BodyState
null_branch_in v n = labelled v n >>= λ d. reference_in (inner_of v) (operand_stack v) >>= null_then v (label_types d)
