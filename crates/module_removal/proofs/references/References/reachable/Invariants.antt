use Rattle.std.proofs.Common.{◌≡◌, take}
use Rattle.module_removal.specs.Edges.{roots_of}
use Rattle.module_removal.proofs.references.References.reachable.Given as goal

abbrev pub invariant-roots : goal.invariant-roots
invariant-roots l = l.numbers.items ≡ roots_of l.self.counts (take l.root-index l.roots)
