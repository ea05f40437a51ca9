-- The arguments and the other locals so far have their numbers.
use Rattle.std.proofs.Common.{◌≡◌, ℕ, take}
use Rattle.wasm_body.specs.LocalNumbers.{ids_of, number_of_local}
use Rattle.walrus_numbering.specs.EmittedLocals.{number_in}
use Rattle.walrus_numbering.proofs.local_numbers.number_others.Given as goal

abbrev pub invariant-loop-place : goal.invariant-loop-place
invariant-loop-place l = (id : ℕ) → number_in l.numbers.entries id ≡ number_of_local l.args (ids_of (take l.place l.others)) id
