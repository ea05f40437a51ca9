use Rattle.std.specs.Prelude.{◌≡◌, ℕ, length, take}
use Rattle.std.specs.Option.{option_map}
use Rattle.wasm_body.specs.LocalNumbers.{last_place}
use Rattle.walrus_numbering.specs.EmittedLocals.{number_in, saturated}
use Rattle.walrus_numbering.specs.NumberTables.{entries_in}
use Rattle.walrus_numbering.proofs.listed_locals.argument_table.Given as goal

-- The table has the numbers of the arguments so far.
abbrev pub invariant-loop-place : goal.invariant-loop-place
invariant-loop-place l =
    (length l.table.items ≡ l.len)
    × ((id : ℕ) → number_in (entries_in l.table.items) id ≡ option_map saturated (last_place (take l.place l.args) id))
