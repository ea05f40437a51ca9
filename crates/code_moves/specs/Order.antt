-- What the runs and the declared locals of a body that is written anew are like: in order, before and after.
use Rattle.std.specs.Prelude.{ℕ, suc, ◌<◌, ◌≤◌, List, [], ◌∷◌, ⊤}
use Rattle.std.specs.Coded.{×_prop, Unit-prop, le_prop}
use Rattle.code_moves.specs.declared.run.Run.{Run}
use Rattle.code_moves.specs.declared.body.LocalMove.{LocalMove}

-- the run has an operator, and begins at these addresses or after them, in the source and in what is written
abbrev pub IsRunFrom : (from new_from : ℕ) → Run → Type 0
IsRunFrom from new_from r = ((from ≤ r.old) × (r.old < r.end)) × ((new_from ≤ r.gap) × (r.gap ≤ r.own))

-- Runs from these addresses on, that end at or before those. Of each run the first operator is before what follows, in the source
-- and in what is written.
abbrev pub AreRunsOfCode : (from new_from : ℕ) → List Run → (end new_end : ℕ) → Type 0
AreRunsOfCode from new_from [] end new_end = (from ≤ end) × (new_from ≤ new_end)
AreRunsOfCode from new_from (r ∷ rs) end new_end = IsRunFrom from new_from r × AreRunsOfCode r.end (suc r.own) rs end new_end

pub AreRuns-prop : (from new_from : ℕ) (rs : List Run) (end new_end : ℕ) → IsProp (AreRunsOfCode from new_from rs end new_end)
AreRuns-prop from new_from [] end new_end = ×_prop le_prop le_prop
AreRuns-prop from new_from (r ∷ rs) end new_end =
    ×_prop (×_prop (×_prop le_prop le_prop) (×_prop le_prop le_prop)) (AreRuns-prop r.end (suc r.own) rs end new_end)

-- declared locals by ascending index, none of them a parameter
abbrev pub AreLocals : (from : ℕ) → List LocalMove → Type 0
AreLocals from [] = ⊤
AreLocals from (m ∷ ms) = (from ≤ m.old) × AreLocals (suc m.old) ms

pub AreLocals-prop : (from : ℕ) (ms : List LocalMove) → IsProp (AreLocals from ms)
AreLocals-prop from [] = Unit-prop
AreLocals-prop from (m ∷ ms) = ×_prop le_prop (AreLocals-prop (suc m.old) ms)
