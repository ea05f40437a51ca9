-- All locals so far are of the type.
use Rattle.std.proofs.Common.{◌≡◌, ◌+◌, drop}
use Rattle.wasm_body.specs.LocalNumbers.{types_of}
use Rattle.walrus_numbering.specs.EmittedLocals.{leading}
use Rattle.walrus_numbering.proofs.local_numbers.leading.Given as goal

abbrev pub invariant-loop-count : goal.invariant-loop-count
invariant-loop-count l = leading l.ty (types_of l.locals) ≡ l.count + leading l.ty (types_of (drop l.count l.locals))
