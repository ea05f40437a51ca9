use Rattle.std.proofs.Common.{◌≡◌, ◌++◌, length, take}
use Rattle.std.specs.List.{flat_map}
use Rattle.wasm_operators.specs.Shortest.{short_number}
use Rattle.module_removal.specs.LeftParts.{item_bytes, items_numbered}
use Rattle.module_removal.proofs.followed.items_vector.Given as goal

abbrev pub invariant-items : goal.invariant-items
invariant-items l =
    l.vector.items ≡ short_number (length l.items) ++ flat_map item_bytes (items_numbered (take l.number-index l.items))
