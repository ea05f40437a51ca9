use Rattle.std.specs.Prelude.{◌≡◌, ℕ, length, take}
use Rattle.wasm_body.specs.LocalNumbers.{ids_of, number_of_local}
use Rattle.walrus_numbering.specs.EmittedLocals.{number_in}
use Rattle.walrus_numbering.specs.NumberTables.{entries_in}
use Rattle.walrus_numbering.proofs.listed_locals.number_listed.Given as goal

-- The table has the numbers of the arguments and of the others so far.
abbrev pub invariant-loop-place : goal.invariant-loop-place
invariant-loop-place l =
    (length l.table.items ≡ length l.initial.table.items)
    × ((id : ℕ) → number_in (entries_in l.table.items) id ≡ number_of_local l.args (ids_of (take l.place l.others)) id)
