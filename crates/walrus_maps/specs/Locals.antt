-- The locals of functions, by old index.
use Rattle.std.specs.Prelude.{ℕ, List, [], ◌∷◌, ◌++◌, slice_get, unwrap_or, Result}
use Rattle.std.specs.Ordering.{nat_cmp}
use Rattle.std.specs.FinMap.{FinMap, get, insert}
use Rattle.wasm_body.specs.declared.error.IndexError.{IndexError}
use Rattle.wasm_body.specs.declared.error.IndexError.TheVariants.{NoLocals, LocalOutOfRange}
use Rattle.wasm_numbers.specs.Results.{◌>>=◌, some_or}

-- the locals of a function; it has none if it has no list
abbrev pub list_of : FinMap nat_cmp (List ℕ) → ℕ → List ℕ
list_of m function = unwrap_or (get m function) []

-- the same lists with one more local at the end of a function's list
abbrev pub with_local : (function local : ℕ) → FinMap nat_cmp (List ℕ) → FinMap nat_cmp (List ℕ)
with_local function local m = insert m function (list_of m function ++ local ∷ [])

-- the local at an index of a function, or the error if there is none
abbrev pub local_in : FinMap nat_cmp (List ℕ) → ℕ → ℕ → Result ℕ IndexError
local_in m function index = some_or (get m function) (NoLocals function) >>= λ locals. some_or (slice_get locals index) (LocalOutOfRange function index)
