-- States in which the operands reach the height of the innermost frame, and the frames are in one another.
use Rattle.std.specs.Prelude.{◌≡◌, ◌≤◌, List, [], ◌∷◌, length, Bool, true, false}
use Rattle.wasm_body.specs.Validity as algorithm
use Rattle.wasm_body.specs.Validity.{ControlFrame, State}

abbrev pub is_function_frame : algorithm.Opened → Bool
is_function_frame algorithm.OfFunction = true
is_function_frame _ = false

-- The outermost frame is the function's, and no other is; and none is below the one around it.
abbrev pub AreNested : List ControlFrame → Type 0
AreNested [] = Unit {0}
AreNested (f ∷ []) = is_function_frame f.opened ≡ true
AreNested (f ∷ g ∷ fs) = (is_function_frame f.opened ≡ false) × (g.height ≤ f.height) × AreNested (g ∷ fs)

abbrev pub AreOver : {X : Type 0} → List X → List ControlFrame → Type 0
AreOver xs [] = Unit {0}
AreOver xs (f ∷ fs) = (f.height ≤ length xs) × AreNested (f ∷ fs)

abbrev pub IsWellFormed : {T : Type 0} → State T → Type 0
IsWellFormed s = AreOver s.stacks.operands s.controls
