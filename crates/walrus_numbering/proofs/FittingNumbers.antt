-- Numbers of ids and of locals that fit 32 bits.
use Rattle.std.specs.Prelude.{ℕ, ◌^◌, ◌<◌, nat_lt, List, Bool, true, false, Option, Some, None, Result, Ok, Err, ◌≡◌}
use Rattle.std.specs.FinMap.{get}
use Rattle.std.proofs.Common.{refl, ap, ◌∙◌}
use Rattle.std.proofs.lemmas.Bool.{lt-ltb, ltb-true}
use Rattle.walrus_ir.specs.Types.{ModuleType}
use Rattle.wasm_numbers.specs.Results.{◌>>=◌, unless, with_fault, some_or}
use Rattle.wasm_operators.specs.declared.types.Space.{Space}
use Rattle.wasm_body.specs.declared.error.EmitError.{EmitError}
use Rattle.wasm_body.specs.declared.error.EmitError.TheVariants.{Index, UnnumberedLocal}
use Rattle.wasm_body.specs.declared.error.IndexError.TheVariants.{Unnumbered}
use Rattle.wasm_body.specs.EmissionFaults.{IsNumber}
use Rattle.walrus_maps.specs.declared.ids_to_indices.IdsToIndices.{IdsToIndices}
use Rattle.walrus_maps.specs.IndexMaps.{numbers_in}
use Rattle.walrus_numbering.specs.EmittedLocals.{number_in}
use Rattle.walrus_numbering.specs.NumberMaps.{fitting_number, numbers_by, NumbersFit}

-- ---- of ids

by_test : (space : Space) (n : ℕ) (b : Bool) → nat_lt n (2 ^ 32) ≡ b → IsNumber (with_fault Index (unless b (Unnumbered space) >>= λ u. Ok n))
by_test space n true e = ltb-true n (2 ^ 32) e
by_test space n false e = tt

by_number : (space : Space) (o : Option ℕ) → IsNumber (with_fault Index (some_or o (Unnumbered space) >>= fitting_number (Unnumbered space)))
by_number space (Some n) = by_test space n (nat_lt n (2 ^ 32)) refl
by_number space None = tt

-- ---- of locals

abbrev local_by : Option ℕ → Result ℕ EmitError
local_by o = some_or o UnnumberedLocal >>= fitting_number UnnumberedLocal

local_by_test : (n : ℕ) (b : Bool) → nat_lt n (2 ^ 32) ≡ b → IsNumber (unless b UnnumberedLocal >>= λ u. Ok n)
local_by_test n true e = ltb-true n (2 ^ 32) e
local_by_test n false e = tt

local_by_number : (o : Option ℕ) → IsNumber (local_by o)
local_by_number (Some n) = local_by_test n (nat_lt n (2 ^ 32)) refl
local_by_number None = tt

pub numbers_fit : NumbersFit
numbers_fit types ids locals = record {
  ids = λ space id. by_number space (get (numbers_in ids space) id);
  locals = λ id. local_by_number (number_in locals id);
}

-- the number of a local in a map whose numbers fit, and where there is none
fitting_local : (o : Option ℕ) → ((n : ℕ) → o ≡ Some n → n < 2 ^ 32) → local_by o ≡ some_or o UnnumberedLocal
fitting_local (Some n) fits = ap (λ b. unless b UnnumberedLocal >>= λ u. Ok n) (lt-ltb n (2 ^ 32) (fits n refl))
fitting_local None fits = refl

module _ (types : List ModuleType) (ids : IdsToIndices) (locals : List (ℕ × ℕ)) (id : ℕ) where
  pub local_number_is : ((n : ℕ) → number_in locals id ≡ Some n → n < 2 ^ 32) → (numbers_by types ids locals).local_number id ≡ some_or (number_in locals id) UnnumberedLocal
  local_number_is fits = fitting_local (number_in locals id) fits

  pub numbered_local : (n : ℕ) → number_in locals id ≡ Some n → n < 2 ^ 32 → (numbers_by types ids locals).local_number id ≡ Ok n
  numbered_local n is fits = ap local_by is ∙ ap (λ b. unless b UnnumberedLocal >>= λ u. Ok n) (lt-ltb n (2 ^ 32) fits)

  pub unnumbered_local : number_in locals id ≡ None → (numbers_by types ids locals).local_number id ≡ Err UnnumberedLocal
  unnumbered_local is = ap local_by is
