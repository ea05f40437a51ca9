-- The numbers that are written for ids.
use Rattle.std.specs.Prelude.{◌^◌, ℕ, nat_lt, List, Result, Ok}
use Rattle.std.specs.Ordering.{nat_cmp}
use Rattle.std.specs.FinMap.{get, from_entries}
use Rattle.walrus_ir.specs.Types.{ModuleType, signature_of_type}
use Rattle.wasm_body.specs.declared.error.EmitError.TheVariants.{Index, UnnumberedLocal}
use Rattle.wasm_body.specs.declared.error.IndexError.TheVariants.{Unnumbered}
use Rattle.wasm_numbers.specs.Results.{◌>>=◌, unless, with_fault, some_or}
use Rattle.wasm_body.specs.NormalForm.{is_balanced_type}
use Rattle.wasm_body.specs.Bytes.{Numbers}
use Rattle.wasm_body.specs.EmissionFaults.{AreNumbers}
use Rattle.walrus_numbering.specs.declared.number_maps.NumberMaps.{NumberMaps}
use Rattle.walrus_maps.specs.declared.ids_to_indices.IdsToIndices.{IdsToIndices}
use Rattle.walrus_maps.specs.IndexMaps.{number_of}

-- a number of 32 bits, or else this fault
abbrev pub fitting_number : {E : Type 0} → E → ℕ → Result ℕ E
fitting_number e n = unless (nat_lt n (2 ^ 32)) e >>= λ _. Ok n

-- In a module with these types, the numbers that index maps and a map of the function's locals give. A new index, and the
-- number of a local, is one of 32 bits.
abbrev pub numbers_by : List ModuleType → IdsToIndices → List (ℕ × ℕ) → Numbers
numbers_by types ids locals = record {
  number_of = λ space id.
      with_fault Index (number_of ids space id >>= fitting_number (Unnumbered space));
  local_number = λ id.
      some_or (get (from_entries {R = nat_cmp} locals) id) UnnumberedLocal >>= fitting_number UnnumberedLocal;
  balanced = λ t. is_balanced_type (signature_of_type types t);
}

abbrev pub numbers_of : NumberMaps → Numbers
numbers_of m = numbers_by m.types.now m.ids.now m.locals.now.entries

-- ---- laws

-- Whatever the maps are, each id and each local has a number that fits 32 bits, or none.
abbrev pub NumbersFit : Type 0
NumbersFit =
    (types : List ModuleType) (ids : IdsToIndices) (locals : List (ℕ × ℕ)) → AreNumbers (numbers_by types ids locals)
