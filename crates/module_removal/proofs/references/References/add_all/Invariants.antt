use Rattle.std.proofs.Common.{take}
use Rattle.module_removal.specs.Edges.{AddsReferencesTo}
use Rattle.module_removal.proofs.references.References.add_all.Given as goal

abbrev pub invariant-items : goal.invariant-items
invariant-items l = AddsReferencesTo l.from (take l.item-index l.items) l.fn.self l.self
