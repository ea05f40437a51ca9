-- Entries of a vector, each with the new index of an item (WebAssembly core specification 3.0, binary format, conventions): how many, and their
-- bytes.
use Rattle.std.specs.Prelude.{ℕ, List, ◌++◌, Option, Some, None}
use Rattle.wasm_operators.specs.Shortest.{short_number}
use Rattle.module_removal.specs.declared.entries.Entries.{Entries}
use Rattle.module_removal.specs.ItemNumbers.{counted_more}

-- one more, if the item has a new index
abbrev pub with_entry : Option ℕ → (value : List ℕ) → ℕ × List ℕ → ℕ × List ℕ
with_entry (Some index) value so = (counted_more so.0 1, so.1 ++ (short_number index ++ value))
with_entry None value so = so

-- the vector of them
abbrev pub counted_bytes : ℕ × List ℕ → List ℕ
counted_bytes so = short_number so.0 ++ so.1

-- ---- for values of the code

abbrev pub entries_made : Entries → ℕ × List ℕ
entries_made e = (e.count, e.bytes.items)
