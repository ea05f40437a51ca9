use Rattle.walrus_facts.specs.Mapping.{IsCalled, IsMappedItem}
use Rattle.walrus_facts.proofs.Changes.{ChangedBelow}
use Rattle.walrus_facts.proofs.mapping.map_list.Given as goal

abbrev pub invariant-loop-index : goal.invariant-loop-index
invariant-loop-index g l =
    goal.F-IsAlwaysCallable g l.change
    × ChangedBelow (IsMappedItem (IsCalled (goal.F-step g))) l.fn.change l.fn.items l.change l.items l.index
