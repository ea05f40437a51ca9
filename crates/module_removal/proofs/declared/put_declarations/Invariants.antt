use Rattle.std.proofs.Common.{◌≡◌, ◌++◌, take}
use Rattle.std.specs.List.{flat_map}
use Rattle.wasm_operators.specs.Shortest.{short_number}
use Rattle.module_removal.specs.LeftSections.{declared_index}
use Rattle.module_removal.proofs.declared.put_declarations.Given as goal

abbrev pub invariant-functions : goal.invariant-functions
invariant-functions l =
    l.out.items ≡ l.initial.out.items ++ flat_map (λ func. short_number (declared_index l.left func)) (take l.func-index l.functions)
