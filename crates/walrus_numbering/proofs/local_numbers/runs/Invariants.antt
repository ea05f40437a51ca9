-- The runs found so far come before those of the remaining locals.
use Rattle.std.proofs.Common.{◌≡◌, ◌++◌, length}
use Rattle.wasm_body.specs.LocalNumbers.{types_of, runs}
use Rattle.walrus_numbering.proofs.local_numbers.runs.Given as goal

abbrev pub invariant-left : goal.invariant-left
invariant-left l = l.found.items ++ runs (types_of l.left) ≡ runs (types_of l.fn.locals)

abbrev pub decreases-left : goal.decreases-left
decreases-left l = length l.left
