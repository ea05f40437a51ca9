-- The runs of a body up to where a bisection by their ends ends.
use Rattle.std.proofs.Common.{◌≡◌, ℕ, zero, suc, ◌+◌, ◌-◌, ◌<◌, ◌≤◌, true, ltb, List, [], ◌∷◌, None, drop, refl, ◌∙◌, arith}
use Rattle.std.specs.Prelude.{min}
use Rattle.std.specs.List.{AllWithin}
use Rattle.std.specs.List.Sorted.{IsNonDecreasingBy}
use Rattle.std.proofs.lemmas.Bool.{leb-true, ltb-true, le-leb, lt-leb, lt-ltb, le-ltb}
use Rattle.std.proofs.lemmas.Bool.Decides.{nat_tests}
use lib.Dec.{leb}
use Rattle.code_moves.specs.declared.run.Run.{Run}
use Rattle.code_moves.specs.Order.{AreRunsOfCode}
use Rattle.code_moves.specs.Moves.{first_gap, new_place, operator_place, own_before, ends_written}
use Rattle.code_moves.proofs.Bisection.{RiseFrom, rise}

ends_from : (from new_from : ℕ) (rs : List Run) (end new_end : ℕ) → AreRunsOfCode from new_from rs end new_end → RiseFrom (λ (r : Run). r.end) from rs
ends_from from new_from [] end new_end runs = tt
ends_from from new_from (r ∷ rs) end new_end runs =
    let first = runs.0 in
    (omega arith, ends_from r.end (suc r.own) rs end new_end runs.1)

pub ends_rise : (from new_from : ℕ) (rs : List Run) (end new_end : ℕ) → AreRunsOfCode from new_from rs end new_end → IsNonDecreasingBy (λ (r : Run). r.end) rs
ends_rise from new_from rs end new_end runs = rise (λ (r : Run). r.end) from rs (ends_from from new_from rs end new_end runs)

pub runs_end : (from new_from : ℕ) (rs : List Run) (end new_end : ℕ) → AreRunsOfCode from new_from rs end new_end → (from ≤ end) × (new_from ≤ new_end)
runs_end from new_from [] end new_end runs = runs
runs_end from new_from (r ∷ rs) end new_end runs =
    let first = runs.0 in
    let rest = runs_end r.end (suc r.own) rs end new_end runs.1 in
    (omega arith, omega arith)

-- ---- one run

pub place_before : (r : Run) (rs : List Run) (new_end a : ℕ) → a ≤ r.old → new_place (r ∷ rs) new_end a ≡ r.gap
place_before r rs new_end a le = rw (le-leb a r.old le) refl

pub place_in : (r : Run) (rs : List Run) (new_end a : ℕ) → r.old < a → a < r.end → new_place (r ∷ rs) new_end a ≡ min (r.own + (a - r.old)) (first_gap rs new_end)
place_in r rs new_end a low high = rw (lt-leb a r.old low, lt-ltb a r.end high) refl

pub place_after : (r : Run) (rs : List Run) (new_end a : ℕ) → r.old < r.end → r.end ≤ a → new_place (r ∷ rs) new_end a ≡ new_place rs new_end a
place_after r rs new_end a some le = rw (lt-leb a r.old (omega arith), le-ltb a r.end le) refl

pub operator_before : (r : Run) (rs : List Run) (new_end a : ℕ) → a < r.old → operator_place (r ∷ rs) new_end a ≡ None
operator_before r rs new_end a before = rw (lt-ltb a r.old before) refl

pub operator_in : (r : Run) (rs : List Run) (new_end a : ℕ) → r.old ≤ a → a < r.end → operator_place (r ∷ rs) new_end a ≡ own_before (first_gap rs new_end) (r.own + (a - r.old))
operator_in r rs new_end a low high = rw (le-ltb a r.old low, lt-ltb a r.end high) refl

pub operator_after : (r : Run) (rs : List Run) (new_end a : ℕ) → r.old < r.end → r.end ≤ a → operator_place (r ∷ rs) new_end a ≡ operator_place rs new_end a
operator_after r rs new_end a some le = rw (le-ltb a r.old (omega arith), le-ltb a r.end le) refl

-- ---- the runs that are passed

pub place_passes : (from new_from : ℕ) (rs : List Run) (end new_end : ℕ) → AreRunsOfCode from new_from rs end new_end → (a at : ℕ) → AllWithin (λ (r : Run). leb r.end a ≡ true) rs 0 at
    → new_place rs new_end a ≡ new_place (drop at rs) new_end a
place_passes from new_from rs end new_end runs a zero by = refl
place_passes from new_from [] end new_end runs a (suc at) by = refl
place_passes from new_from (r ∷ rs) end new_end runs a (suc at) by =
    place_after r rs new_end a runs.0.0.1 (leb-true r.end a (by 0 r (omega arith) (omega arith)))
    ∙ place_passes r.end (suc r.own) rs end new_end runs.1 a at (λ k d low high. by (suc k) d (omega arith) (omega arith))

pub operator_passes : (from new_from : ℕ) (rs : List Run) (end new_end : ℕ) → AreRunsOfCode from new_from rs end new_end → (a at : ℕ) → AllWithin (λ (r : Run). leb r.end a ≡ true) rs 0 at
    → operator_place rs new_end a ≡ operator_place (drop at rs) new_end a
operator_passes from new_from rs end new_end runs a zero by = refl
operator_passes from new_from [] end new_end runs a (suc at) by = refl
operator_passes from new_from (r ∷ rs) end new_end runs a (suc at) by =
    operator_after r rs new_end a runs.0.0.1 (leb-true r.end a (by 0 r (omega arith) (omega arith)))
    ∙ operator_passes r.end (suc r.own) rs end new_end runs.1 a at (λ k d low high. by (suc k) d (omega arith) (omega arith))

pub ends_written_passes : (from new_from : ℕ) (rs : List Run) (end new_end : ℕ) → AreRunsOfCode from new_from rs end new_end → (a at : ℕ) → AllWithin (λ (r : Run). ltb r.end a ≡ true) rs 0 at
    → ends_written rs a ≡ ends_written (drop at rs) a
ends_written_passes from new_from rs end new_end runs a zero by = refl
ends_written_passes from new_from [] end new_end runs a (suc at) by = refl
ends_written_passes from new_from (r ∷ rs) end new_end runs a (suc at) by =
    let after : r.end < a = ltb-true r.end a (by 0 r (omega arith) (omega arith)) in
    let some = runs.0.0.1 in
    rw (lt-ltb r.old a (omega arith), lt-leb a r.end after)
    (ends_written_passes r.end (suc r.own) rs end new_end runs.1 a at (λ k d low high. by (suc k) d (omega arith) (omega arith)))

pub ends_written_first : (r : Run) (rs : List Run) (a : ℕ) → a ≤ r.end → ltb r.old a ≡ ends_written (r ∷ rs) a
ends_written_first r rs a le = grind (arith, nat_tests)
