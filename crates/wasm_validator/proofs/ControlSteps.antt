-- The step of the algorithm at each operator of the code, as the methods take it.
use Rattle.std.proofs.Common.{◌≡◌, ℕ, List, [], ◌∷◌, Ok, refl, ap, ◌∙◌}
use Rattle.wasm_types.specs.declared.val_type.HeapType.{HeapType}
use Rattle.wasm_types.specs.declared.val_type.HeapType.TheVariants.{Abstract, Concrete}
use Rattle.walrus_ir.specs.Types.{Signature}
use Rattle.wasm_numbers.specs.Results.{◌>>=◌, each}
use Rattle.wasm_operators.specs.declared.types.Opcode.{Opcode}
use Rattle.wasm_operators.specs.declared.types.Opcode.TheVariants.{Byte, Prefixed}
use Rattle.wasm_operators.specs.declared.types.RawCast.{RawCast}
use Rattle.wasm_operators.specs.declared.types.Space.TheVariants.{Types, Funcs, Tables}
use Rattle.wasm_operators.specs.Operations.{Cast, Immediate, operation, index, label, handler, branch_table, cast}
use Rattle.wasm_operators.specs.ReferenceOperations.{cast_of}
use Rattle.wasm_body.specs.Translation.{translate_heap}
use Rattle.wasm_body.specs.Validity.{Checked}
use Rattle.wasm_typing.specs.Rules.{call, call_ref, call_indirect}
use Rattle.wasm_context.specs.Validation.{BodyContext, BodyState, checked_index, raw_step}
use Rattle.wasm_validator.specs.declared.state.Validator.{Validator}
use Rattle.wasm_validator.specs.Steps.{setting_of, open_state, ReachesHeight}
use Rattle.wasm_validator.specs.Core.{step_of, table_in, rethrows_in, tail_in, conditional_in, if_rule, non_null_rule, cast_in, cast_fail_in}
use Rattle.wasm_validator.proofs.Branches.{conditional_is, if_has, non_null_has, cast_has, cast_fail_has}
use Rattle.wasm_validator.proofs.Leaving.{tail_is}

-- ---- immediates that keep their names

same_heap : (b : BodyContext) (h : HeapType ℕ) → translate_heap (checked_index b) h ≡ Ok h
same_heap b (Abstract a) = refl
same_heap b (Concrete n) = refl

same_labels : (ns : List ℕ) → each (let k : ℕ → Checked ℕ = λ l. Ok l in k) ns ≡ Ok ns
same_labels [] = refl
same_labels (n ∷ ns) = ap (λ a. a >>= λ ms. Ok (n ∷ ms)) (same_labels ns)

-- ---- `br_table`

module _ (v : Validator) (ns : List ℕ) (n : ℕ) where
  abbrev to_table : List ℕ → Immediate ℕ Signature
  to_table ms = branch_table ms n

  abbrev with_labels : Checked (List ℕ) → Checked BodyState
  with_labels a = (((a >>= λ ms. Ok (to_table ms)) >>= λ y. Ok (y ∷ [])) >>= λ is. Ok (operation (Byte 0x0e) is)) >>= λ k. step_of v k

  pub table_is : raw_step (setting_of v) (operation (Byte 0x0e) (branch_table ns n ∷ [])) (open_state v) ≡ table_in v (ns, n)
  table_is = ap with_labels (same_labels ns)

-- ---- casts

module _ (v : Validator) (o : Opcode) (k : Cast ℕ) where
  abbrev to_cast : HeapType ℕ → HeapType ℕ → Cast ℕ
  to_cast source target = record { from_nullable = k.from_nullable; to_nullable = k.to_nullable; label = k.label; source = source; target = target }

  abbrev as_immediate : Cast ℕ → Immediate ℕ Signature
  as_immediate c = cast c

  abbrev with_heaps : Checked (HeapType ℕ) → Checked (HeapType ℕ) → Checked BodyState
  with_heaps s t = ((((s >>= λ x. t >>= λ y. Ok (to_cast x y)) >>= λ d. Ok (as_immediate d)) >>= λ i. Ok (i ∷ [])) >>= λ is. Ok (operation o is)) >>= λ n. step_of v n

  raw_cast : raw_step (setting_of v) (operation o (cast k ∷ [])) (open_state v) ≡ step_of v (operation o (cast k ∷ []))
  raw_cast =
      ap (λ s. with_heaps s (translate_heap (checked_index (setting_of v)) k.target)) (same_heap (setting_of v) k.source)
      ∙ ap (with_heaps (Ok k.source)) (same_heap (setting_of v) k.target)

pub cast_is : (v : Validator) (k : RawCast) → ReachesHeight v → raw_step (setting_of v) (operation (Prefixed 0xfb 24) (cast (cast_of k) ∷ [])) (open_state v) ≡ cast_in v k
cast_is v k reach = raw_cast v (Prefixed 0xfb 24) (cast_of k) ∙ conditional_is v reach (operation (Prefixed 0xfb 24) (cast (cast_of k) ∷ [])) k.label _ (cast_has (setting_of v) (cast_of k))

pub cast_fail_is : (v : Validator) (k : RawCast) → ReachesHeight v → raw_step (setting_of v) (operation (Prefixed 0xfb 25) (cast (cast_of k) ∷ [])) (open_state v) ≡ cast_fail_in v k
cast_fail_is v k reach = raw_cast v (Prefixed 0xfb 25) (cast_of k) ∙ conditional_is v reach (operation (Prefixed 0xfb 25) (cast (cast_of k) ∷ [])) k.label _ (cast_fail_has (setting_of v) (cast_of k))

-- ---- other branches on a condition

pub branch_if_is : (v : Validator) (n : ℕ) → ReachesHeight v → raw_step (setting_of v) (operation (Byte 0x0d) (label n ∷ [])) (open_state v) ≡ conditional_in v n if_rule
branch_if_is v n reach = conditional_is v reach (operation (Byte 0x0d) (label n ∷ [])) n if_rule (if_has (setting_of v) n)

pub non_null_is : (v : Validator) (n : ℕ) → ReachesHeight v → raw_step (setting_of v) (operation (Byte 0xd6) (label n ∷ [])) (open_state v) ≡ conditional_in v n non_null_rule
non_null_is v n reach = conditional_is v reach (operation (Byte 0xd6) (label n ∷ [])) n non_null_rule (non_null_has (setting_of v) n)

-- ---- `rethrow`

pub rethrow_is : (v : Validator) (n : ℕ) → raw_step (setting_of v) (operation (Byte 0x09) (handler n ∷ [])) (open_state v) ≡ rethrows_in v n
rethrow_is v n = refl

-- ---- tail calls

pub return_call_is : (v : Validator) (n : ℕ) → ReachesHeight v → raw_step (setting_of v) (operation (Byte 0x12) (index Funcs n ∷ [])) (open_state v) ≡ tail_in v (call (setting_of v).operands n)
return_call_is v n reach = tail_is v reach (call (setting_of v).operands n)

pub return_call_indirect_is : (v : Validator) (n t : ℕ) → ReachesHeight v
    → raw_step (setting_of v) (operation (Byte 0x13) (index Types n ∷ index Tables t ∷ [])) (open_state v) ≡ tail_in v (call_indirect (setting_of v).operands n t)
return_call_indirect_is v n t reach = tail_is v reach (call_indirect (setting_of v).operands n t)

pub return_call_ref_is : (v : Validator) (n : ℕ) → ReachesHeight v → raw_step (setting_of v) (operation (Byte 0x15) (index Types n ∷ [])) (open_state v) ≡ tail_in v (call_ref (setting_of v).operands n)
return_call_ref_is v n reach = tail_is v reach (call_ref (setting_of v).operands n)
