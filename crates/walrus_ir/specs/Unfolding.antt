-- The tree of a function: its builder unfolded from a sequence, by slots.
use Rattle.std.specs.Prelude.{◌≡◌, ℕ, List, [], ◌∷◌, Bool, false, ◌==◌, Some, slice_get}
use Rattle.std.specs.List.{flat_map, list_any}
use Rattle.walrus_ir.specs.declared.seq.InstrSeq.{InstrSeq}
use Rattle.walrus_ir.specs.declared.instr.Instr.{Instr}
use Rattle.walrus_ir.specs.declared.instr.Instr.TheVariants.{Block, Loop, IfElse, TryTable, Try}
use Rattle.walrus_ir.specs.declared.control.LegacyCatch.{LegacyCatch}
use Rattle.walrus_ir.specs.declared.control.LegacyCatch.TheVariants.{Catch, CatchAll, Delegate}
use Rattle.walrus_ir.specs.Tree.{Items, no_items, item, Sequences, no_sequences, sequence, Tree, alone}

-- a sequence with its slot in the builder
pub record SequenceAt : Type 0 where
  pub slot : ℕ
  pub seq : InstrSeq

-- an instruction with its location
abbrev pub LocatedInstr : Type 0
LocatedInstr = Instr × ℕ

-- the handler of a clause of a legacy `try`
abbrev pub handler_of : LegacyCatch → List ℕ
handler_of (Catch tag handler) = handler ∷ []
handler_of (CatchAll handler) = handler ∷ []
handler_of (Delegate n) = []

abbrev pub handlers : List LegacyCatch → List ℕ
handlers clauses = flat_map handler_of clauses

-- the slots of the sequences in an instruction, in walk order
abbrev pub slots_in : Instr → List ℕ
slots_in (Block x) = x.seq ∷ []
slots_in (Loop x) = x.seq ∷ []
slots_in (IfElse x) = x.consequent ∷ x.alternative ∷ []
slots_in (TryTable x) = x.seq ∷ []
slots_in (Try x) = x.seq ∷ handlers x.catches
slots_in _ = []

abbrev pub slots_in_all : List LocatedInstr → List ℕ
slots_in_all xs = flat_map (λ (x : LocatedInstr). slots_in x.0) xs

mutual
  -- the items of a sequence with these instructions
  pub data AreTreeItems (b : List InstrSeq) : List LocatedInstr → Items SequenceAt LocatedInstr → Type 0 where
    are_no_items : AreTreeItems b [] no_items
    are_items : {x : LocatedInstr} {xs : List LocatedInstr} {inside : Sequences SequenceAt LocatedInstr} {rest : Items SequenceAt LocatedInstr}
        → AreSequences b (slots_in x.0) inside → AreTreeItems b xs rest → AreTreeItems b (x ∷ xs) (item x inside rest)

  -- the sequences at these slots
  pub data AreSequences (b : List InstrSeq) : List ℕ → Sequences SequenceAt LocatedInstr → Type 0 where
    are_no_sequences : AreSequences b [] no_sequences
    are_sequences : {p : ℕ} {ps : List ℕ} {seq : InstrSeq} {items : Items SequenceAt LocatedInstr} {rest : Sequences SequenceAt LocatedInstr}
        → slice_get b p ≡ Some seq → AreTreeItems b seq.instrs items → AreSequences b ps rest
        → AreSequences b (p ∷ ps) (sequence (record { slot = p; seq = seq }) items rest)

-- the slots of the sequences, the last in walk order first, on top of those reached before
abbrev mutual
  pub slots_reached : Items SequenceAt LocatedInstr → List ℕ → List ℕ
  slots_reached no_items seen = seen
  slots_reached (item x inside rest) seen = slots_reached rest (slots_reached_each inside seen)

  pub slots_reached_each : Sequences SequenceAt LocatedInstr → List ℕ → List ℕ
  slots_reached_each no_sequences seen = seen
  slots_reached_each (sequence head items rest) seen = slots_reached_each rest (slots_reached items (head.slot ∷ seen))

-- whether a slot is one of these
abbrev pub among : ℕ → List ℕ → Bool
among p slots = list_any (λ q. p == q) slots

abbrev pub Apart : List ℕ → Type 0
Apart [] = Unit {0}
Apart (p ∷ ps) = (among p ps ≡ false) × Apart ps

-- the tree of the function from a sequence on: every sequence that is reached is known, and none is reached twice
pub record IsTree (b : List InstrSeq) (start : ℕ) (t : Tree SequenceAt LocatedInstr) : Type 0 where
  pub unfolds : AreSequences b (start ∷ []) (alone t)
  pub apart : Apart (slots_reached_each (alone t) [])
