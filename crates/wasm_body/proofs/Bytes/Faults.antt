-- The faults of writing the result of a parse.
use Rattle.std.specs.Prelude.{◌≡◌, ◌⊎◌, ◌+◌, ◌^◌, ◌&&◌, ℕ, nat_lt, nat_le, length, List, [], ◌∷◌, Bool, true, false, Some, None, IfErr, Result, Ok, Err}
use Rattle.std.specs.List.{AllByRecursion, list_all}
use Rattle.std.proofs.Common.{inl, inr, refl, subst}
use Rattle.std.proofs.lemmas.Result.{IfErr-weaker}
use Rattle.wasm_types.specs.declared.val_type.HeapType.{HeapType}
use Rattle.wasm_types.specs.declared.val_type.HeapType.TheVariants.{Abstract, Concrete}
use Rattle.wasm_types.specs.declared.val_type.ValType.{ValType}
use Rattle.wasm_types.specs.declared.val_type.ValType.TheVariants.{I32, I64, F32, F64, V128, Ref}
use Rattle.walrus_ir.specs.declared.val_type.InstrSeqType.{InstrSeqType}
use Rattle.walrus_ir.specs.declared.val_type.InstrSeqType.TheVariants.{Simple, MultiValue}
use Rattle.wasm_numbers.specs.Results.{◌>>=◌, unless, each}
use Rattle.wasm_operators.specs.declared.types.BlockType.TheVariants.{Value, FuncType}
use Rattle.wasm_operators.specs.declared.types.Space.{Space}
use Rattle.wasm_operators.specs.declared.types.Space.TheVariants.{Types}
use Rattle.wasm_body.specs.declared.error.EmitError.{EmitError}
use Rattle.wasm_body.specs.declared.error.EmitError.TheVariants.{TooLarge}
use Rattle.wasm_body.specs.Translation.{translate_heap, translate_value}
use Rattle.wasm_body.specs.Bytes.{Numbers, in_32_bits, numbers_in_32_bits, numbered_block}
use Rattle.wasm_body.specs.LocalNumbers.{types_of, runs, declaration, declarations, declared}
use Rattle.wasm_body.specs.EmissionFaults.{HasNoNumber, IsNumber, AreIdNumbers, EmissionFaults, DeclarationFaults}
use Rattle.wasm_body.proofs.Translation.Faults.{ok_no_fault, steps_within, last_within, each_within}
use Rattle.wasm_body.proofs.Bytes.Fitting.{fits}
use Rattle.wasm_body.proofs.Bytes.NumberedBodies.{AreNumbered, bytes_within}

-- a number fits
number_within : (r : Result ℕ EmitError) → IsNumber r → IfErr (r >>= in_32_bits) HasNoNumber
number_within (Ok n) h = ok_no_fault HasNoNumber (in_32_bits n) (fits n h)
number_within (Err e) h = h

-- ---- types

module _ (to : Numbers) (are : AreIdNumbers to) where
  abbrev numbered : Space → ℕ → Result ℕ EmitError
  numbered = (numbers_in_32_bits to).number_of

  heap_within : (h : HeapType ℕ) → IfErr (translate_heap numbered h) HasNoNumber
  heap_within (Abstract a) = tt
  heap_within (Concrete n) = last_within HasNoNumber (numbered Types n) Concrete (number_within (to.number_of Types n) (are Types n))

  value_within : (v : ValType ℕ) → IfErr (translate_value numbered v) HasNoNumber
  value_within I32 = tt
  value_within I64 = tt
  value_within F32 = tt
  value_within F64 = tt
  value_within V128 = tt
  value_within (Ref r) =
      let made : HeapType ℕ → ValType ℕ = λ h. Ref (record { nullable = r.nullable; heap_type = h }) in
      last_within HasNoNumber (translate_heap numbered r.heap_type) made (heap_within r.heap_type)

  block_within : (t : InstrSeqType) → IfErr (numbered_block to t) HasNoNumber
  block_within (Simple None) = tt
  block_within (Simple (Some v)) = last_within HasNoNumber (translate_value numbered v) Value (value_within v)
  block_within (MultiValue id) = last_within HasNoNumber (numbered Types id) FuncType (number_within (to.number_of Types id) (are Types id))

-- ---- operators

pub emission_faults : EmissionFaults
emission_faults env xs b spelt lawful to are e h =
    let numbered : AreNumbered HasNoNumber env to = record {
      indices = λ space n id m. number_within (to.number_of space id) (are.ids space id);
      locals = λ n id m. number_within (to.local_number id) (are.locals id);
      blocks = λ b s t m p. block_within to are.ids t;
    } in
    subst (λ r. IfErr r HasNoNumber) h (bytes_within HasNoNumber env to numbered xs b spelt lawful)

-- ---- declarations

abbrev OfDeclarations : EmitError → Type 0
OfDeclarations e = (e ≡ TooLarge) ⊎ HasNoNumber e

counts_within : (t : Bool) → IfErr (unless t TooLarge) OfDeclarations
counts_within true = tt
counts_within false = inl refl

runs_within : (to : Numbers) → AreIdNumbers to → (rs : List (ℕ × ValType ℕ)) → AllByRecursion (λ r. IfErr (declaration to r) OfDeclarations) rs
runs_within to are [] = tt
runs_within to are (r ∷ rs) = (
  IfErr-weaker (declaration to r) HasNoNumber OfDeclarations (λ e h. inr h)
      (last_within HasNoNumber (translate_value (numbers_in_32_bits to).number_of r.1) (λ t. (r.0, t)) (value_within to are r.1)),
  runs_within to are rs,
)

pub declaration_faults : DeclarationFaults
declaration_faults to are arguments locals e h =
    let rs = runs (types_of locals) in
    let many = nat_le (arguments + length locals) (2 ^ 32) in
    let fit = nat_lt (length rs) (2 ^ 32) && list_all (λ run. nat_lt run.0 (2 ^ 32)) rs in
    let all : IfErr (declarations to rs) OfDeclarations =
    steps_within OfDeclarations (unless fit TooLarge) (λ u. each (declaration to) rs) (counts_within fit)
    (λ u. each_within OfDeclarations (declaration to) rs (runs_within to are rs)) in
    let whole : IfErr (declared to arguments locals) OfDeclarations =
    steps_within OfDeclarations (unless many TooLarge) (λ u. declarations to rs) (counts_within many) (λ u. all) in
    subst (λ r. IfErr r OfDeclarations) h whole
