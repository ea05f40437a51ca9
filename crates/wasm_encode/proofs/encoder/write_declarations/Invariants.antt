use Rattle.std.proofs.Common.{◌≡◌, ◌++◌, length, take}
use Rattle.std.specs.List.{flat_map}
use Rattle.wasm_encode.specs.Declarations.{short_declaration}
use Rattle.wasm_encode.proofs.encoder.write_declarations.Given as goal

abbrev pub invariant-loop-count : goal.invariant-loop-count
invariant-loop-count l =
    (l.out.items ≡ l.fn.out.items ++ flat_map short_declaration (take l.count-index l.locals))
    × (take (length l.fn.out.items) l.out.items ≡ l.fn.out.items)
