use Rattle.std.proofs.Common.{◌≡◌, ◌++◌, length, take}
use Rattle.std.specs.List.{flat_map}
use Rattle.wasm_operators.specs.Shortest.{short_number}
use Rattle.wasm_encode.proofs.immediates.write_table.Given as goal

abbrev pub invariant-loop-label : goal.invariant-loop-label
invariant-loop-label l =
    (l.out.items ≡ (l.fn.out.items ++ short_number (length l.targets)) ++ flat_map short_number (take l.label-index l.targets))
    × (take (length l.fn.out.items) l.out.items ≡ l.fn.out.items)
