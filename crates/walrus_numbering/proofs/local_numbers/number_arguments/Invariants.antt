-- The arguments so far have their numbers.
use Rattle.std.proofs.Common.{◌≡◌, ℕ, take}
use Rattle.std.specs.Option.{option_map}
use Rattle.wasm_body.specs.LocalNumbers.{last_place}
use Rattle.walrus_numbering.specs.EmittedLocals.{number_in, saturated}
use Rattle.walrus_numbering.proofs.local_numbers.number_arguments.Given as goal

abbrev pub invariant-loop-place : goal.invariant-loop-place
invariant-loop-place l = (id : ℕ) → number_in l.numbers.entries id ≡ option_map saturated (last_place (take l.place l.args) id)
