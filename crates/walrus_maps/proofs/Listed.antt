-- The items listed so far come before the remaining ones.
use Rattle.std.specs.Prelude.{List, ◌++◌, Result, Ok}
use Rattle.wasm_numbers.specs.Results.{◌>>=◌}

abbrev pub after_these : {A E : Type 0} → List A → Result (List A) E → Result (List A) E
after_these before rest = rest >>= λ ys. Ok (before ++ ys)
