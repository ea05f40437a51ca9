use Rattle.std.proofs.Common.{◌≡◌, ◌++◌, take}
use Rattle.std.specs.List.{flat_map}
use Rattle.wasm_encode.specs.Declarations.{short_declaration}
use Rattle.walrus_flat.proofs.declarations.write_each.Given as goal

abbrev pub invariant-loop-count : goal.invariant-loop-count
invariant-loop-count l = l.out.items ≡ l.fn.out.items ++ flat_map short_declaration (take l.count-index l.locals)
