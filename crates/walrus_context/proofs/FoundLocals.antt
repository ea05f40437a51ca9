-- A local that is in the list of a function's locals.
use Rattle.std.specs.Prelude.{◌≡◌, ℕ, List, [], Option, Some, None, slice_get, unwrap_or, Ok}
use Rattle.std.specs.FinMap.{get}
use Rattle.std.proofs.Common.{ap}
use Rattle.wasm_body.specs.declared.error.IndexError.TheVariants.{NoLocals, LocalOutOfRange}
use Rattle.wasm_numbers.specs.Results.{◌>>=◌, some_or}
use Rattle.walrus_maps.specs.declared.indices_to_ids.IndicesToIds.{IndicesToIds}
use Rattle.walrus_maps.specs.IndexMaps.{locals_in, local_of}

in_list : (o : Option (List ℕ)) (function index local : ℕ) → slice_get (unwrap_or o []) index ≡ Some local →
    (some_or o (NoLocals function) >>= λ locals. some_or (slice_get locals index) (LocalOutOfRange function index)) ≡ Ok local
in_list None function index local e = absurd cc
in_list (Some locals) function index local e = ap (λ l. some_or l (LocalOutOfRange function index)) e

pub found_local : (m : IndicesToIds) (function index local : ℕ) → slice_get (locals_in m function) index ≡ Some local → local_of m function index ≡ Ok local
found_local m function index local e = in_list (get m.locals function) function index local e
