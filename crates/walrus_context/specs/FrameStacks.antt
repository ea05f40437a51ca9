-- Frames whose instructions are in one list, one frame after the other.
use Rattle.std.specs.Prelude.{ℕ, zero, suc, ◌+◌, ◌-◌, ◌≤◌, List, [], ◌∷◌, length, take, drop}
use Rattle.walrus_ir.specs.Unfolding.{LocatedInstr}
use Rattle.walrus_context.specs.declared.frame.ControlFrame.{ControlFrame}
use Rattle.walrus_context.specs.OpenFrames.{OpenFrame, frame_with}

-- the items from one position on and before another
abbrev pub part : {A : Type 0} → List A → (from to : ℕ) → List A
part xs from to = take (to - from) (drop from xs)

-- the start of the first of these frames, or the end of the list if there is none
abbrev pub begin_of : List ControlFrame → (end : ℕ) → ℕ
begin_of [] end = end
begin_of (f ∷ fs) end = f.start

-- the frames, innermost first, inside these; a frame has the instructions from its start to the start of the next
abbrev pub frames_in : List LocatedInstr → List OpenFrame → List ControlFrame → List OpenFrame
frames_in all outer [] = outer
frames_in all outer (f ∷ fs) = frames_in all (frame_with f (part all f.start (begin_of fs (length all))) ∷ outer) fs

-- no frame begins before the one around it, or after the end of the list
abbrev pub StartFrom : (low : ℕ) → List ControlFrame → (end : ℕ) → Type 0
StartFrom low [] end = low ≤ end
StartFrom low (f ∷ fs) end = (low ≤ f.start) × StartFrom f.start fs end

-- a frame that begins one instruction later
abbrev pub moved_frame : ControlFrame → ControlFrame
moved_frame f = record f { start = f.start + 1 }

-- every frame from the n-th on begins one instruction later
abbrev pub moved_from : (n : ℕ) → List ControlFrame → List ControlFrame
moved_from n [] = []
moved_from zero (f ∷ fs) = moved_frame f ∷ moved_from zero fs
moved_from (suc n) (f ∷ fs) = f ∷ moved_from n fs
