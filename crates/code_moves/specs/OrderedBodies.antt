-- What the bodies of a module that is written anew are like: in order, before and after.
use Rattle.std.specs.Prelude.{ℕ, suc, ◌≤◌, List, [], ◌∷◌, ⊤}
use Rattle.std.specs.Coded.{×_prop, Unit-prop, le_prop}
use Rattle.code_moves.specs.declared.body.Body.{Body}

-- Bodies from these addresses on, in the source and in what is written. Between two bodies is at least a byte, the size of the second.
abbrev pub AreOrdered : (from new_from : ℕ) → List Body → Type 0
AreOrdered from new_from [] = ⊤
AreOrdered from new_from (b ∷ bs) = ((from ≤ b.begin) × (new_from ≤ b.new_begin)) × AreOrdered (suc b.end) (suc b.new_end) bs

pub AreOrdered-prop : (from new_from : ℕ) (bs : List Body) → IsProp (AreOrdered from new_from bs)
AreOrdered-prop from new_from [] = Unit-prop
AreOrdered-prop from new_from (b ∷ bs) = ×_prop (×_prop le_prop le_prop) (AreOrdered-prop (suc b.end) (suc b.new_end) bs)
