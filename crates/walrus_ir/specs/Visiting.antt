-- The state of a walk while a visitor is told about it: the sequences that are open, and the slots of those that are to come.
use Rattle.std.specs.Prelude.{◌≡◌, ℕ, suc, List, [], ◌∷◌, ◌++◌, Some, length, map, reverse, slice_get}
use Rattle.walrus_ir.specs.declared.seq.InstrSeq.{InstrSeq}
use Rattle.walrus_ir.specs.declared.walk.Open.{Open}
use Rattle.walrus_ir.specs.Unfolding.{LocatedInstr, slots_in}
use Rattle.walrus_ir.specs.Events.{WalkEvent, StartSequence, EndSequence, VisitInstruction, names}

-- an open sequence: its instructions that are still to be visited, and the number of sequences inside the last visited one
-- that are still to come
pub record Frame : Type 0 where
  pub seq : InstrSeq
  pub rest : List LocatedInstr
  pub inside : ℕ

abbrev pub frame : Open → Frame
frame o = record { seq = o.seq.now; rest = o.rest.now; inside = o.inside }

-- the open sequences on a stack, the innermost first
abbrev pub frames : List Open → List Frame
frames stack = map frame (reverse stack)

abbrev pub started : InstrSeq → Frame
started seq = record { seq = seq; rest = seq.instrs; inside = 0 }

-- A stretch of instructions at the front of `all`, with `left` after it: the events that visit it. Only its last instruction
-- may contain sequences; `inside` is their number.
pub data IsStretch (all : List LocatedInstr) : (left : List LocatedInstr) (inside : ℕ) → List WalkEvent → Type 0 where
  no_stretch : IsStretch all all 0 []
  continues : {x : LocatedInstr} {left : List LocatedInstr} {es : List WalkEvent} → IsStretch all (x ∷ left) 0 es
      → IsStretch all left (length (slots_in x.0)) (es ++ VisitInstruction x.0 x.1 ∷ names x.0)

-- What comes next in the innermost open sequence: the events, the sequences that are then open in its place, and the slots
-- that are then to come. If a sequence inside the last instruction is to come, it starts. Otherwise a stretch
-- of instructions is visited, and the sequence ends if no instruction is left after it.
pub data Next (b : List InstrSeq) : Frame → (coming : List ℕ) → List WalkEvent → (opened : List Frame) → (coming' : List ℕ) → Type 0 where
  starts : {seq inner : InstrSeq} {rest : List LocatedInstr} {n p : ℕ} {coming : List ℕ} → slice_get b p ≡ Some inner
      → Next b (record { seq = seq; rest = rest; inside = suc n }) (p ∷ coming)
      (StartSequence inner ∷ []) (started inner ∷ record { seq = seq; rest = rest; inside = n } ∷ []) coming
  visits : {seq : InstrSeq} {x : LocatedInstr} {rest left : List LocatedInstr} {es : List WalkEvent} {coming : List ℕ} → IsStretch rest (x ∷ left) 0 es
      → Next b (record { seq = seq; rest = rest; inside = 0 }) coming
      (es ++ VisitInstruction x.0 x.1 ∷ names x.0) (record { seq = seq; rest = left; inside = length (slots_in x.0) } ∷ []) coming
  ends : {seq : InstrSeq} {rest : List LocatedInstr} {es : List WalkEvent} {coming : List ℕ} → IsStretch rest [] 0 es
      → Next b (record { seq = seq; rest = rest; inside = 0 }) coming (es ++ EndSequence seq ∷ []) [] coming

-- a visitor was told about a stretch
pub record IsVisitedStretch (all left : List LocatedInstr) (inside : ℕ) (Visited : List WalkEvent → Type 0) : Type 0 where
  pub events : List WalkEvent
  pub stretch : IsStretch all left inside events
  pub visited : Visited events

-- a visitor was told about a stretch up to an event that it refused, which belongs to the last instruction of the stretch
pub record IsRefusedStretch (all : List LocatedInstr) (Stopped : List WalkEvent → Type 0) : Type 0 where
  pub before : List WalkEvent
  pub last : LocatedInstr
  pub left : List LocatedInstr
  pub stretch : IsStretch all (last ∷ left) 0 before
  pub stopped : Stopped (before ++ VisitInstruction last.0 last.1 ∷ names last.0)

-- a visitor was told about what comes next
pub record IsVisitedNext (b : List InstrSeq) (f : Frame) (coming : List ℕ) (fs : List Frame)
    (Visited : List WalkEvent → Type 0) (fs' : List Frame) (coming' : List ℕ) : Type 0 where
  pub events : List WalkEvent
  pub opened : List Frame
  pub next : Next b f coming events opened coming'
  pub visited : Visited events
  pub stack : fs' ≡ opened ++ fs

-- a visitor was told about what comes next, up to an event that it refused
pub record IsRefusedNext (b : List InstrSeq) (f : Frame) (coming : List ℕ) (Stopped : List WalkEvent → Type 0) : Type 0 where
  pub events : List WalkEvent
  pub opened : List Frame
  pub coming' : List ℕ
  pub next : Next b f coming events opened coming'
  pub stopped : Stopped events
