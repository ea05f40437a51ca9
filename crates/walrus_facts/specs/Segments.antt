-- `DataSegmentsVisitor` collects the data segments that instructions name.
use Rattle.std.specs.Prelude.{◌≡◌, ◌||◌, ◌==◌, ℕ, Bool, List, [], ◌∷◌}
use Rattle.std.specs.HashSet.{contains}
use Rattle.std.proofs.Common.{sym, ap, ◌∙◌}
use Rattle.walrus_ir.specs.declared.error.WalkError.{WalkError}
use Rattle.walrus_ir.specs.declared.error.WalkError.TheVariants.{Memory}
use Rattle.walrus_ir.specs.Unfolding.{among}
use Rattle.walrus_ir.specs.Events.{WalkEvent, StartSequence, EndSequence, VisitInstruction, NameFunction, NameLocal, NameData}
use Rattle.walrus_ir.specs.Events.{AreStepsAlike, AreRefusalsAlike}
use Rattle.walrus_facts.specs.declared.segments.DataSegmentsVisitor.{DataSegmentsVisitor}

-- whether it contains a data segment
abbrev pub holds : DataSegmentsVisitor → ℕ → Bool
holds s d = contains (λ x y. x == y) s.segments d

-- the data segment that the instruction of an event names
abbrev pub named : WalkEvent → List ℕ
named (NameData d) = d ∷ []
named _ = []

abbrev pub Collects : DataSegmentsVisitor → WalkEvent → DataSegmentsVisitor → Type 0
Collects s e t = (d : ℕ) → holds t d ≡ (among d (named e) || holds s d)

-- memory ran out for the data segment that is named
abbrev pub IsOutOfMemoryAt : DataSegmentsVisitor → WalkEvent → WalkError → Type 0
IsOutOfMemoryAt s (NameData d) f = f ≡ Memory
IsOutOfMemoryAt s _ f = ⊥

-- both contain the same data segments
abbrev pub HoldsSame : DataSegmentsVisitor → DataSegmentsVisitor → Type 0
HoldsSame s t = (d : ℕ) → holds t d ≡ holds s d

-- if both contain the same segments before and the same segments after, a step of one is a step of the other
pub collect_alike : AreStepsAlike HoldsSame Collects
collect_alike s s' t t' e from to step d = to d ∙ (step d ∙ ap (λ b. among d (named e) || b) (sym (from d)))

-- whether memory runs out doesn't depend on the segments that they contain
pub memory_alike : AreRefusalsAlike HoldsSame IsOutOfMemoryAt
memory_alike s s' (StartSequence seq) f from h = h
memory_alike s s' (EndSequence seq) f from h = h
memory_alike s s' (VisitInstruction i location) f from h = h
memory_alike s s' (NameFunction n) f from h = h
memory_alike s s' (NameLocal n) f from h = h
memory_alike s s' (NameData d) f from h = h
