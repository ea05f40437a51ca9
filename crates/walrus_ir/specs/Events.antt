-- The events of a walk, and what it means to tell a visitor about them.
use Rattle.std.specs.Prelude.{ℕ, List, [], ◌∷◌, ◌++◌, Result, MatchResult}
use Rattle.walrus_ir.specs.declared.seq.InstrSeq.{InstrSeq}
use Rattle.walrus_ir.specs.declared.instr.Instr.{Instr}
use Rattle.walrus_ir.specs.declared.instr.Instr.TheVariants.{RefFunc, LocalGet, LocalSet, LocalTee}
use Rattle.walrus_ir.specs.declared.instr.Instr.TheVariants.{MemoryInit, DataDrop, ArrayNewData, ArrayInitData}
use Rattle.walrus_ir.specs.Tree.{Items, no_items, item, Sequences, no_sequences, sequence, Tree, alone}
use Rattle.walrus_ir.specs.Unfolding.{SequenceAt, LocatedInstr}

pub data WalkEvent : Type 0 where
  StartSequence : InstrSeq → WalkEvent
  EndSequence : InstrSeq → WalkEvent
  VisitInstruction : Instr → (location : ℕ) → WalkEvent
  NameFunction : ℕ → WalkEvent
  NameLocal : ℕ → WalkEvent
  NameData : ℕ → WalkEvent

-- the item that an instruction names: the function of a `ref.func`, a local or a data segment
abbrev pub names : Instr → List WalkEvent
names (RefFunc x) = NameFunction x.func ∷ []
names (LocalGet x) = NameLocal x.local ∷ []
names (LocalSet x) = NameLocal x.local ∷ []
names (LocalTee x) = NameLocal x.local ∷ []
names (MemoryInit x) = NameData x.data_id ∷ []
names (DataDrop x) = NameData x.data_id ∷ []
names (ArrayNewData x) = NameData x.data_id ∷ []
names (ArrayInitData x) = NameData x.data_id ∷ []
names _ = []

-- the events, followed by `later`: an instruction is visited before the item that it names, and this item before the
-- sequences inside the instruction
abbrev mutual
  pub item_events : Items SequenceAt LocatedInstr → List WalkEvent → List WalkEvent
  item_events no_items later = later
  item_events (item x inside rest) later =
      VisitInstruction x.0 x.1 ∷ (names x.0 ++ sequence_events inside (item_events rest later))

  pub sequence_events : Sequences SequenceAt LocatedInstr → List WalkEvent → List WalkEvent
  sequence_events no_sequences later = later
  sequence_events (sequence head items rest) later =
      StartSequence head.seq ∷ item_events items (EndSequence head.seq ∷ sequence_events rest later)

abbrev pub events : Tree SequenceAt LocatedInstr → List WalkEvent
events t = sequence_events (alone t) []

-- What a visitor's calls do. `steps s e t`: in state s it may accept the event e, and is then in state t.
-- `refuses s e f`: in state s it may refuse e with the fault f. `same s t`: in state t it is as it was in state s.

-- states that are the same have the same steps, and refuse the same events with the same faults
abbrev pub AreStepsAlike : {V : Type 0} → (V → V → Type 0) → (V → WalkEvent → V → Type 0) → Type 0
AreStepsAlike {V = V} same steps = (s s' t t' : V) (e : WalkEvent) → same s s' → same t t' → steps s e t → steps s' e t'

abbrev pub AreRefusalsAlike : {V F : Type 0} → (V → V → Type 0) → (V → WalkEvent → F → Type 0) → Type 0
AreRefusalsAlike {V = V} {F = F} same refuses = (s s' : V) (e : WalkEvent) (f : F) → same s s' → refuses s e f → refuses s' e f

-- the visitor accepts these events, and goes from one state to another
pub data Folds {V : Type 0} (steps : V → WalkEvent → V → Type 0) : V → List WalkEvent → V → Type 0 where
  through : {v : V} → Folds steps v [] v
  after : {v w x : V} {e : WalkEvent} {es : List WalkEvent} → steps v e w → Folds steps w es x → Folds steps v (e ∷ es) x

-- the visitor accepts the first of these events, goes from one state to another, and refuses the next event with a fault
pub data Stops {V F : Type 0} (steps : V → WalkEvent → V → Type 0) (refuses : V → WalkEvent → F → Type 0) (same : V → V → Type 0)
    : V → List WalkEvent → V → F → Type 0 where
  refused : {v w : V} {e : WalkEvent} {es : List WalkEvent} {f : F} → refuses v e f → same v w → Stops steps refuses same v (e ∷ es) w f
  later : {v w x : V} {e : WalkEvent} {es : List WalkEvent} {f : F}
      → steps v e w → Stops steps refuses same w es x f → Stops steps refuses same v (e ∷ es) x f

-- the result of one event: the visitor accepted it, or it refused it and is unchanged
abbrev pub VisitsOne : {V F U : Type 0} → (V → WalkEvent → V → Type 0) → (V → WalkEvent → F → Type 0) → (V → V → Type 0)
    → V → WalkEvent → Result U F → V → Type 0
VisitsOne steps refuses same v e r w = MatchResult r (λ _. steps v e w) (λ f. refuses v e f × same v w)

-- the result of some events: the visitor accepted them all, or it accepted the first ones and refused the next
abbrev pub VisitsAll : {V F U : Type 0} → (V → WalkEvent → V → Type 0) → (V → WalkEvent → F → Type 0) → (V → V → Type 0)
    → V → List WalkEvent → Result U F → V → Type 0
VisitsAll steps refuses same v es r w = MatchResult r (λ _. Folds steps v es w) (λ f. Stops steps refuses same v es w f)
