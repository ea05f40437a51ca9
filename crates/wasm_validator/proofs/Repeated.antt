-- Types in a row that are popped, the last one first.
use Rattle.std.proofs.Common.{◌≡◌, ℕ, zero, suc, ◌+◌, ◌<◌, List, [], ◌∷◌, ◌++◌, length, map, take, get_or, replicate, reverse, Some, Ok, Err, refl, sym, ap, subst, ◌∙◌, arith}
use Rattle.std.specs.Prelude.{slice_get, option_map}
use Rattle.std.proofs.Math.Seq.{take-suc}
use Rattle.std.proofs.lemmas.List.{reverse-append}
use Rattle.std.proofs.lemmas.Option.{slice_get_within, get_or_from_slice_get, slice_get-map, slice_get-get_or}
use Rattle.wasm_types.specs.declared.val_type.ValType.{ValType}
use Rattle.wasm_numbers.specs.Results.{◌>>=◌}
use Rattle.wasm_body.specs.Validity.{ControlFrame, Checked}
use Rattle.wasm_typing.specs.Contexts as standard
use Rattle.wasm_typing.specs.Contexts.{unpacked}
use Rattle.wasm_context.specs.Validation.{BodyContext}
use Rattle.wasm_context.specs.Contexts.{storage_of, field_of}
use Rattle.wasm_context.specs.declared.types.FieldType.{FieldType}
use Rattle.wasm_validator.specs.declared.fault.Fault.{Fault}
use Rattle.wasm_validator.specs.declared.state.Validator.{Validator}
use Rattle.wasm_validator.specs.States.{Known}
use Rattle.wasm_validator.specs.Plain.{field_types}
use Rattle.wasm_validator.specs.Steps.{ResultsIn, setting_of, operand_stack, inner_of, pop_in, pop_each_in, pop_all_in}
use Rattle.wasm_validator.proofs.StepResults.{passes_on}

-- the last of the first types
pub take_then : (b : BodyContext) (f : ControlFrame) (ts : List (ValType ℕ)) (k n : ℕ) (t : ValType ℕ) (xs : List Known) → n ≡ k + 1 → slice_get ts k ≡ Some t
    → pop_all_in b f (take n ts) xs ≡ (pop_in b f t xs >>= pop_all_in b f (take k ts))
take_then b f ts k n t xs e at =
    let more : n ≡ suc k = omega arith in
    let one = take-suc ts k t (slice_get_within ts k t at) ∙ ap (λ u. take k ts ++ u ∷ []) (get_or_from_slice_get ts k t t at) in
    ap (λ i. pop_all_in b f (take i ts) xs) more
    ∙ ap (λ l. pop_all_in b f l xs) one
    ∙ ap (λ l. pop_each_in b f l xs) (reverse-append (take k ts) (t ∷ []))

-- the type of a field
pub field_type_at : (fields : List FieldType) (k : ℕ) (d : FieldType) (t : ValType ℕ) → k < length fields → unpacked (storage_of (get_or fields k d).storage) ≡ t
    → slice_get (field_types fields) k ≡ Some t
field_type_at fields k d t within is =
    slice_get-map (λ (f : standard.FieldType). unpacked f.storage) (map field_of fields) k
    ∙ ap (option_map (λ (f : standard.FieldType). unpacked f.storage)) (slice_get-map field_of fields k ∙ ap (option_map field_of) (slice_get-get_or fields k d within))
    ∙ ap (λ u. Some u) is

-- one type, many times
pub same_then : (b : BodyContext) (f : ControlFrame) (k n : ℕ) (t : ValType ℕ) (xs : List Known) → n ≡ k + 1
    → pop_each_in b f (replicate n t) xs ≡ (pop_in b f t xs >>= pop_each_in b f (replicate k t))
same_then b f k n t xs e = let more : n ≡ suc k = omega arith in ap (λ i. pop_each_in b f (replicate i t) xs) more

one_last : (n : ℕ) (t : ValType ℕ) → replicate n t ++ t ∷ [] ≡ t ∷ replicate n t
one_last zero t = refl
one_last (suc n) t = ap (λ l. t ∷ l) (one_last n t)

pub same_reversed : (n : ℕ) (t : ValType ℕ) → reverse (replicate n t) ≡ replicate n t
same_reversed zero t = refl
same_reversed (suc n) t = reverse-append (t ∷ []) (replicate n t) ∙ ap (λ l. l ++ t ∷ []) (same_reversed n t) ∙ one_last n t

-- ---- the loops that pop them, from a state u on, which is v but for its operands

module _ (v u w : Validator) (k n : ℕ) (t : ValType ℕ) (more : n ≡ k + 1) (same : u ≡ record v { operands = u.operands }) where
  abbrev b : BodyContext
  b = setting_of v

  abbrev f : ControlFrame
  f = inner_of v

  -- the pop of the code, in the context of v
  popping : {X : Type 0} (then : Checked (List Known) → X) → then (pop_in (setting_of u) (inner_of u) t (operand_stack u)) ≡ then (pop_in b f t (operand_stack u))
  popping then = ap (λ (x : Validator). then (pop_in (setting_of x) (inner_of x) t (operand_stack u))) same

  pub still_same : w ≡ record u { operands = w.operands } → w ≡ record v { operands = w.operands }
  still_same again = let with_those : Validator → Validator = λ x. record x { operands = w.operands } in again ∙ ap with_those same

  pub fields_on : (ts : List (ValType ℕ)) (whole : Checked (List Known)) → slice_get ts k ≡ Some t → pop_in (setting_of u) (inner_of u) t (operand_stack u) ≡ Ok (operand_stack w)
      → pop_all_in b f (take n ts) (operand_stack u) ≡ whole → pop_all_in b f (take k ts) (operand_stack w) ≡ whole
  fields_on ts whole at popped h =
      sym (take_then b f ts k n t (operand_stack u) more at ∙ ap (λ a. a >>= pop_all_in b f (take k ts)) (sym (popping (λ a. a)) ∙ popped)) ∙ h

  pub fields_end : (ts : List (ValType ℕ)) (whole : Checked (List Known)) (e : Fault) → slice_get ts k ≡ Some t
      → ResultsIn (pop_in (setting_of u) (inner_of u) t (operand_stack u)) (Err e) (operand_stack w) → pop_all_in b f (take n ts) (operand_stack u) ≡ whole
      → ResultsIn whole (Err e) (operand_stack w)
  fields_end ts whole e at popped h =
      subst (λ a. ResultsIn a (Err e) (operand_stack w)) (sym (take_then b f ts k n t (operand_stack u) more at) ∙ h)
      (passes_on (pop_in b f t (operand_stack u)) (pop_all_in b f (take k ts)) (operand_stack w) (operand_stack w) e
      (subst (λ a. ResultsIn a (Err e) (operand_stack w)) (popping (λ a. a)) popped))

  pub same_on : (whole : Checked (List Known)) → pop_in (setting_of u) (inner_of u) t (operand_stack u) ≡ Ok (operand_stack w)
      → pop_each_in b f (replicate n t) (operand_stack u) ≡ whole → pop_each_in b f (replicate k t) (operand_stack w) ≡ whole
  same_on whole popped h =
      sym (same_then b f k n t (operand_stack u) more ∙ ap (λ a. a >>= pop_each_in b f (replicate k t)) (sym (popping (λ a. a)) ∙ popped)) ∙ h

  pub same_end : (whole : Checked (List Known)) (e : Fault) → ResultsIn (pop_in (setting_of u) (inner_of u) t (operand_stack u)) (Err e) (operand_stack w)
      → pop_each_in b f (replicate n t) (operand_stack u) ≡ whole → ResultsIn whole (Err e) (operand_stack w)
  same_end whole e popped h =
      subst (λ a. ResultsIn a (Err e) (operand_stack w)) (sym (same_then b f k n t (operand_stack u) more) ∙ h)
      (passes_on (pop_in b f t (operand_stack u)) (pop_each_in b f (replicate k t)) (operand_stack w) (operand_stack w) e
      (subst (λ a. ResultsIn a (Err e) (operand_stack w)) (popping (λ a. a)) popped))
