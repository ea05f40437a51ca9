use Rattle.std.proofs.Common.{◌≡◌}
use Rattle.walrus_facts.specs.Mapping.{IsCalled, IsMappedSequence}
use Rattle.walrus_facts.proofs.Changes.{ChangedBelow}
use Rattle.walrus_facts.proofs.mapping.map_instrs.Given as goal

abbrev pub invariant-loop-slot : goal.invariant-loop-slot
invariant-loop-slot g l =
    goal.F-IsAlwaysCallable g l.change
    × (l.builder.type ≡ l.fn.builder.type)
    × (l.builder.entry ≡ l.fn.builder.entry)
    × ChangedBelow (IsMappedSequence (IsCalled (goal.F-step g))) l.fn.change l.fn.builder.sequences l.change l.builder.sequences l.slot
