-- The form in contracts of the open frames, and the effects of single calls on them.
use Rattle.std.specs.Prelude.{◌≡◌, ◌<◌, ◌≤◌, ℕ, zero, suc, List, [], ◌∷◌, ◌++◌, length, slice_get, Option, Some, None, option_map, Bool, true, false, cond, take, Result, Ok, Err}
use Rattle.std.specs.List.{AllByRecursion}
use Rattle.walrus_ir.specs.declared.control.BlockKind.{BlockKind}
use Rattle.walrus_ir.specs.declared.control.LegacyCatch.{LegacyCatch}
use Rattle.walrus_ir.specs.declared.instr.Instr.TheVariants as instr
use Rattle.wasm_numbers.specs.Results.{◌>>=◌, some_or}
use Rattle.wasm_types.specs.declared.val_type.ValType.{ValType}
use Rattle.walrus_ir.specs.Unfolding.{LocatedInstr}
use Rattle.wasm_body.specs.declared.error.ParseError.{ParseError}
use Rattle.wasm_body.specs.declared.error.ParseError.TheVariants.{NoFrame, NoSuchLabel, NoTry}
use Rattle.walrus_context.specs.declared.frame.ControlFrame.{ControlFrame}

-- An open frame: its kind, the types of its parameters and results, its sequence, whether it is unreachable (the instructions that
-- follow in it are dropped), and its instructions.
pub record OpenFrame : Type 0 where
  pub kind : BlockKind
  pub start_types : List (ValType ℕ)
  pub end_types : List (ValType ℕ)
  pub sequence : ℕ
  pub unreachable : Bool
  pub instrs : List LocatedInstr

-- the open frame that a frame of the code shows, with these instructions
abbrev pub frame_with : ControlFrame → List LocatedInstr → OpenFrame
frame_with f instrs = record { kind = f.kind; start_types = f.start_types.items; end_types = f.end_types.items; sequence = f.block; unreachable = f.unreachable; instrs = instrs }

-- the frame of the code shows the open frame, whatever its instructions
pub record Shows (f : ControlFrame) (frame : OpenFrame) : Type 0 where
  pub is : frame ≡ frame_with f frame.instrs

-- the n-th open frame is shown by this frame of the code
abbrev pub ShowsAt : List OpenFrame → (n : ℕ) → ControlFrame → Type 0
ShowsAt fs n f = (frame : OpenFrame) × (slice_get fs n ≡ Some frame) × Shows f frame

abbrev pub AreShown : List ControlFrame → List OpenFrame → Type 0
AreShown [] [] = Unit {0}
AreShown [] (f ∷ fs) = ⊥
AreShown (c ∷ cs) [] = ⊥
AreShown (c ∷ cs) (f ∷ fs) = Shows c f × AreShown cs fs

abbrev pub new_frame : BlockKind → (takes gives : List (ValType ℕ)) → (sequence : ℕ) → OpenFrame
new_frame kind takes gives sequence = record { kind = kind; start_types = takes; end_types = gives; sequence = sequence; unreachable = false; instrs = [] }

-- the n-th frame is changed, and every other is unchanged
abbrev pub changed_at : ℕ → (OpenFrame → OpenFrame) → List OpenFrame → List OpenFrame
changed_at n change [] = []
changed_at zero change (f ∷ fs) = change f ∷ fs
changed_at (suc n) change (f ∷ fs) = f ∷ changed_at n change fs

abbrev pub marked_unreachable : OpenFrame → OpenFrame
marked_unreachable f = record f { unreachable = true }

-- one more instruction, or no change if the frame is unreachable
abbrev pub with_instr : LocatedInstr → OpenFrame → OpenFrame
with_instr x f = record f { instrs = cond f.unreachable f.instrs (f.instrs ++ x ∷ []) }

-- the n-th frame is changed in this way, and every other is unchanged
abbrev pub ChangesAt : ℕ → (OpenFrame → OpenFrame) → (old new : List OpenFrame) → Type 0
ChangesAt n change old new = (n < length old) × (new ≡ changed_at n change old)

-- ---- the fault if there is no frame

-- no frame is open
abbrev pub HasNoFrame : List OpenFrame → ParseError → Type 0
HasNoFrame fs e = (e ≡ NoFrame) × (fs ≡ [])

-- at most n frames are open
abbrev pub HasNoFrameAt : List OpenFrame → (n : ℕ) → ParseError → Type 0
HasNoFrameAt fs n e = (e ≡ NoSuchLabel) × (length fs ≤ n)

-- the frames inside the n-th have no instructions
abbrev pub InnerAreEmpty : ℕ → List OpenFrame → Type 0
InnerAreEmpty n fs = AllByRecursion (λ f. f.instrs ≡ []) (take n fs)

-- ---- a clause of a legacy `try`

-- one more clause for an instruction, if it is a `try`
abbrev pub with_clause_in : LegacyCatch → LocatedInstr → Option LocatedInstr
with_clause_in c (instr.Try t, location) = Some (instr.Try (record t { catches = t.catches ++ c ∷ [] }), location)
with_clause_in c _ = None

-- the same for the last of these instructions
abbrev pub with_last_clause : LegacyCatch → List LocatedInstr → Option (List LocatedInstr)
with_last_clause c [] = None
with_last_clause c (x ∷ []) = option_map (λ y. y ∷ []) (with_clause_in c x)
with_last_clause c (x ∷ y ∷ xs) = option_map (λ ys. x ∷ ys) (with_last_clause c (y ∷ xs))

-- the same in a frame, or no change if it is unreachable
abbrev pub with_clause : LegacyCatch → OpenFrame → Option OpenFrame
with_clause c f = cond f.unreachable (Some f) (option_map (λ xs. record f { instrs = xs }) (with_last_clause c f.instrs))

-- the same in the frame around the innermost
abbrev pub with_clause_around : LegacyCatch → List OpenFrame → Result (List OpenFrame) ParseError
with_clause_around c (g ∷ f ∷ fs) = some_or (with_clause c f) NoTry >>= λ h. Ok (g ∷ h ∷ fs)
with_clause_around c _ = Err NoSuchLabel
