use Rattle.std.proofs.Common.{◌≡◌, ◌++◌, drop}
use Rattle.std.specs.List.Sorted.{IsNonDecreasingBy}
use Rattle.source_map.specs.Moving.{moved_all}
use Rattle.source_map.proofs.moving.moved.Given as goal

abbrev pub invariant-loop-mapping : goal.invariant-loop-mapping
invariant-loop-mapping l = IsNonDecreasingBy (λ m. m.old) l.moves → l.moved.items ++ moved_all l.moves (drop l.mapping-index l.mappings) ≡ moved_all l.moves l.mappings
