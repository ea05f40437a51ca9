-- A visitor that visits instructions only.
use Rattle.std.specs.Prelude.{◌≡◌}
use Rattle.walrus_ir.specs.declared.error.WalkError.{WalkError}
use Rattle.walrus_ir.specs.Unfolding.{LocatedInstr}
use Rattle.walrus_ir.specs.Events.{WalkEvent, StartSequence, EndSequence, VisitInstruction, NameFunction, NameLocal, NameData}

-- the instruction of an event is visited with its location; all other events leave the state as it is
abbrev pub Sees : {V : Type 0} → (visits : V → LocatedInstr → V → Type 0) → V → WalkEvent → V → Type 0
Sees visits s (VisitInstruction i location) t = visits s (i, location) t
Sees visits s (StartSequence seq) t = t ≡ s
Sees visits s (EndSequence seq) t = t ≡ s
Sees visits s (NameFunction n) t = t ≡ s
Sees visits s (NameLocal n) t = t ≡ s
Sees visits s (NameData n) t = t ≡ s

-- no event is refused
abbrev pub RefusesNone : {W : Type 0} → W → WalkEvent → WalkError → Type 0
RefusesNone s e f = ⊥
