-- What a scan of a function's sequences has found, and where it goes on.
use Rattle.std.specs.Prelude.{◌≡◌, ◌||◌, ◌==◌, ◌+◌, ℕ, List, [], ◌++◌, Option, Some, None, false, length, reverse, slice_get, slice_index_or}
use Rattle.std.specs.List.{flat_map}
use Rattle.walrus_ir.specs.declared.seq.InstrSeq.{InstrSeq}
use Rattle.walrus_ir.specs.declared.instr.Instr.{Instr}
use Rattle.walrus_ir.specs.Tree.{Items}
use Rattle.walrus_ir.specs.Unfolding.{SequenceAt, LocatedInstr, among, slots_in, slots_in_all}
use Rattle.walrus_ir.specs.Faults.{Walks}
use Rattle.walrus_ir.specs.Planning.{IsReached}
use Rattle.walrus_facts.specs.declared.scanning.Scan.{Scan}
use Rattle.walrus_facts.specs.Marking.{is_marked}
use Rattle.walrus_facts.specs.Facts.{count, segment_of, segments, function_of, referred, local_of_instr, locals_used, are_some}

-- the locals, the segments and the functions that instructions name
abbrev pub locals_named : List LocatedInstr → List ℕ
locals_named xs = flat_map (λ (x : LocatedInstr). local_of_instr x.0) xs

abbrev pub segments_named : List LocatedInstr → List ℕ
segments_named xs = flat_map (λ (x : LocatedInstr). segment_of x.0) xs

abbrev pub functions_named : List LocatedInstr → List ℕ
functions_named xs = flat_map (λ (x : LocatedInstr). function_of x.0) xs

-- It goes on to these slots first, and has found nothing more.
pub record GoesOn (slots : List ℕ) (old new : Scan) : Type 0 where
  pub coming : reverse new.coming.items ≡ slots ++ reverse old.coming.items
  pub marks : new.marks.items ≡ old.marks.items
  pub size : new.size ≡ old.size
  pub uses : new.uses_data_segments ≡ old.uses_data_segments
  pub refers : new.refers ≡ old.refers
  pub reached : new.reached.items ≡ old.reached.items

-- It has found this local, and nothing else.
pub record MarksOne (local : ℕ) (old new : Scan) : Type 0 where
  pub marks : (l : ℕ) → is_marked new.marks.items l ≡ ((l == local) || is_marked old.marks.items l)
  pub coming : new.coming.items ≡ old.coming.items
  pub size : new.size ≡ old.size
  pub uses : new.uses_data_segments ≡ old.uses_data_segments
  pub refers : new.refers ≡ old.refers
  pub reached : new.reached.items ≡ old.reached.items

-- It has found what this instruction names, and goes on to the sequences in it first.
pub record AddsOne (i : Instr) (old new : Scan) : Type 0 where
  pub coming : reverse new.coming.items ≡ slots_in i ++ reverse old.coming.items
  pub marks : (l : ℕ) → is_marked new.marks.items l ≡ (among l (local_of_instr i) || is_marked old.marks.items l)
  pub size : new.size ≡ old.size
  pub uses : new.uses_data_segments ≡ (are_some (segment_of i) || old.uses_data_segments)
  pub refers : new.refers ≡ (are_some (function_of i) || old.refers)
  pub reached : new.reached.items ≡ old.reached.items

-- The same for these instructions.
pub record AddsAll (xs : List LocatedInstr) (old new : Scan) : Type 0 where
  pub coming : reverse new.coming.items ≡ slots_in_all xs ++ reverse old.coming.items
  pub marks : (l : ℕ) → is_marked new.marks.items l ≡ (among l (locals_named xs) || is_marked old.marks.items l)
  pub size : new.size ≡ old.size
  pub uses : new.uses_data_segments ≡ (are_some (segments_named xs) || old.uses_data_segments)
  pub refers : new.refers ≡ (are_some (functions_named xs) || old.refers)
  pub reached : new.reached.items ≡ old.reached.items

-- The sequence in this slot is reached, and it has found what its instructions name.
pub record EntersSequence (b : List InstrSeq) (slot : ℕ) (old new : Scan) : Type 0 where
  pub seq : InstrSeq
  pub is_reached : IsReached b slot seq old.reached.items new.reached.items
  pub coming : reverse new.coming.items ≡ slots_in_all seq.instrs ++ reverse old.coming.items
  pub marks : (l : ℕ) → is_marked new.marks.items l ≡ (among l (locals_named seq.instrs) || is_marked old.marks.items l)
  pub size : new.size ≡ old.size + length seq.instrs
  pub uses : new.uses_data_segments ≡ (are_some (segments_named seq.instrs) || old.uses_data_segments)
  pub refers : new.refers ≡ (are_some (functions_named seq.instrs) || old.refers)

-- It has found what the instructions of a tree name, and nothing else.
pub record HasFound (items : Items SequenceAt LocatedInstr) (s : Scan) : Type 0 where
  pub size : s.size ≡ count items
  pub uses : s.uses_data_segments ≡ are_some (segments items)
  pub refers : s.refers ≡ are_some (referred items)
  pub marks : (l : ℕ) → is_marked s.marks.items l ≡ among l (locals_used items)

-- the instructions of the sequence in a slot, and of those in some slots
abbrev pub instrs_of : Option InstrSeq → List LocatedInstr
instrs_of (Some seq) = seq.instrs
instrs_of None = []

abbrev pub instrs_at : List InstrSeq → List ℕ → List LocatedInstr
instrs_at b slots = flat_map (λ p. instrs_of (slice_get b p)) slots

-- It has reached these sequences, the last first, has found what their instructions name, and goes on in walk order.
pub record IsScanning (b : List InstrSeq) (start : ℕ) (s : Scan) : Type 0 where
  pub seen : List ℕ
  pub walks : Walks b start seen (reverse s.coming.items)
  pub as_long : length s.reached.items ≡ length b
  pub marks_are : (p : ℕ) → slice_index_or s.reached.items p false ≡ among p seen
  pub size : s.size ≡ length (instrs_at b seen)
  pub uses : s.uses_data_segments ≡ are_some (segments_named (instrs_at b seen))
  pub refers : s.refers ≡ are_some (functions_named (instrs_at b seen))
  pub marks : (l : ℕ) → is_marked s.marks.items l ≡ among l (locals_named (instrs_at b seen))
