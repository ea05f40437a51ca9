-- Where an address goes in a body, by its runs.
use Rattle.std.proofs.Common.{inl, inr, ◌≡◌, ℕ, suc, ◌+◌, ◌-◌, ◌<◌, ◌≤◌, List, [], ◌∷◌, ◌++◌, Some, None, refl, sym, ap, subst, ◌∙◌, arith}
use Rattle.std.specs.Prelude.{min, ◌⊎◌, Any}
use Rattle.std.proofs.lemmas.Bool.{cases_lt, lt-ltb, le-ltb}
use Rattle.code_moves.specs.declared.run.Run.{Run}
use Rattle.code_moves.specs.Order.{AreRunsOfCode}
use Rattle.code_moves.specs.Moves.{first_gap, new_place, operator_place, own_before, IsWrittenAt}
use Rattle.code_moves.proofs.RunSearch.{runs_end, place_before, place_in, place_after, operator_before, operator_in, operator_after}

-- before the run's second byte, inside of it, or after it
abbrev pub PlaceCases : Run → List Run → (new_end a : ℕ) → Type 0
PlaceCases r rs new_end a =
    ((a ≤ r.old) × (new_place (r ∷ rs) new_end a ≡ r.gap))
    ⊎ (((r.old < a) × (a < r.end) × (new_place (r ∷ rs) new_end a ≡ min (r.own + (a - r.old)) (first_gap rs new_end)))
    ⊎ ((r.end ≤ a) × (new_place (r ∷ rs) new_end a ≡ new_place rs new_end a)))

pub place_cases : (r : Run) (rs : List Run) (new_end a : ℕ) → r.old < r.end → PlaceCases r rs new_end a
place_cases r rs new_end a some = elim (cases_lt r.old a) [
  | inr before ↦ inl (before, place_before r rs new_end a before)
  | inl after ↦ elim (cases_lt a r.end) [
    | inl inside ↦ inr (inl (after, inside, place_in r rs new_end a after inside))
    | inr past ↦ inr (inr (past, place_after r rs new_end a some past))
  ]
]

-- ---- the ends, the first gap, and the places after it

pub gap_from : (from new_from : ℕ) (rs : List Run) (end new_end : ℕ) → AreRunsOfCode from new_from rs end new_end → new_from ≤ first_gap rs new_end
gap_from from new_from [] end new_end runs = runs.1
gap_from from new_from (r ∷ rs) end new_end runs = runs.0.1.0

pub place_from_gap : (from new_from : ℕ) (rs : List Run) (end new_end : ℕ) → AreRunsOfCode from new_from rs end new_end → (a : ℕ) → first_gap rs new_end ≤ new_place rs new_end a
place_from_gap from new_from [] end new_end runs a = omega arith
place_from_gap from new_from (r ∷ rs) end new_end runs a =
    let first = runs.0 in
    let gap = gap_from r.end (suc r.own) rs end new_end runs.1 in
    let rest = place_from_gap r.end (suc r.own) rs end new_end runs.1 a in
    elim (place_cases r rs new_end a first.0.1) [
      | inl before ↦ omega arith
      | inr (inl inside) ↦ omega arith
      | inr (inr past) ↦ omega arith
    ]

pub place_until_end : (from new_from : ℕ) (rs : List Run) (end new_end : ℕ) → AreRunsOfCode from new_from rs end new_end → (a : ℕ) → new_place rs new_end a ≤ new_end
place_until_end from new_from [] end new_end runs a = omega arith
place_until_end from new_from (r ∷ rs) end new_end runs a =
    let first = runs.0 in
    let gap = place_from_gap r.end (suc r.own) rs end new_end runs.1 a in
    let low = gap_from r.end (suc r.own) rs end new_end runs.1 in
    let rest = place_until_end r.end (suc r.own) rs end new_end runs.1 a in
    elim (place_cases r rs new_end a first.0.1) [
      | inl before ↦ omega arith
      | inr (inl inside) ↦ omega arith
      | inr (inr past) ↦ omega arith
    ]

-- ---- places are in order

pub place_rises : (from new_from : ℕ) (rs : List Run) (end new_end : ℕ) → AreRunsOfCode from new_from rs end new_end → (a c : ℕ) → a ≤ c → new_place rs new_end a ≤ new_place rs new_end c
place_rises from new_from [] end new_end runs a c le = omega arith
place_rises from new_from (r ∷ rs) end new_end runs a c le =
    let first = runs.0 in
    let low = gap_from r.end (suc r.own) rs end new_end runs.1 in
    let gap = place_from_gap r.end (suc r.own) rs end new_end runs.1 c in
    let rest = place_rises r.end (suc r.own) rs end new_end runs.1 a c le in
    let of_a = place_cases r rs new_end a first.0.1 in
    let of_c = place_cases r rs new_end c first.0.1 in
    grind arith

-- ---- operators that are written

pub written_within : (from new_from : ℕ) (rs : List Run) (end new_end : ℕ) → AreRunsOfCode from new_from rs end new_end → (old own : ℕ) → IsWrittenAt rs new_end old own
    → (from ≤ old) × (first_gap rs new_end ≤ own) × (own < new_end) × (old < end)
written_within from new_from [] end new_end runs old own none = elim none [ ]
written_within from new_from (r ∷ rs) end new_end runs old own (inl here) =
    let first = runs.0 in
    let rest = place_until_end r.end (suc r.own) rs end new_end runs.1 0 in
    let gap = place_from_gap r.end (suc r.own) rs end new_end runs.1 0 in
    let ends = runs_end r.end (suc r.own) rs end new_end runs.1 in
    (omega arith, omega arith, omega arith, omega arith)
written_within from new_from (r ∷ rs) end new_end runs old own (inr later) =
    let first = runs.0 in
    let gap = gap_from r.end (suc r.own) rs end new_end runs.1 in
    let rest = written_within r.end (suc r.own) rs end new_end runs.1 old own later in
    (omega arith, omega arith, omega arith, omega arith)

pub place_until : (from new_from : ℕ) (rs : List Run) (end new_end : ℕ) → AreRunsOfCode from new_from rs end new_end → (a old own : ℕ) → IsWrittenAt rs new_end old own → a ≤ old → new_place rs new_end a ≤ own
place_until from new_from [] end new_end runs a old own none le = elim none [ ]
place_until from new_from (r ∷ rs) end new_end runs a old own (inl here) le =
    let first = runs.0 in
    elim (place_cases r rs new_end a first.0.1) [
      | inl before ↦ omega arith
      | inr (inl inside) ↦ omega arith
      | inr (inr past) ↦ absurd (omega arith)
    ]
place_until from new_from (r ∷ rs) end new_end runs a old own (inr later) le =
    let first = runs.0 in
    let within = written_within r.end (suc r.own) rs end new_end runs.1 old own later in
    let gap = gap_from r.end (suc r.own) rs end new_end runs.1 in
    let rest = place_until r.end (suc r.own) rs end new_end runs.1 a old own later le in
    elim (place_cases r rs new_end a first.0.1) [
      | inl before ↦ omega arith
      | inr (inl inside) ↦ omega arith
      | inr (inr past) ↦ omega arith
    ]

pub place_past : (from new_from : ℕ) (rs : List Run) (end new_end : ℕ) → AreRunsOfCode from new_from rs end new_end → (a old own : ℕ) → IsWrittenAt rs new_end old own → old < a → own < new_place rs new_end a
place_past from new_from [] end new_end runs a old own none lt = elim none [ ]
place_past from new_from (r ∷ rs) end new_end runs a old own (inl here) lt =
    let first = runs.0 in
    let gap = place_from_gap r.end (suc r.own) rs end new_end runs.1 a in
    elim (place_cases r rs new_end a first.0.1) [
      | inl before ↦ absurd (omega arith)
      | inr (inl inside) ↦ omega arith
      | inr (inr past) ↦ omega arith
    ]
place_past from new_from (r ∷ rs) end new_end runs a old own (inr later) lt =
    let first = runs.0 in
    let within = written_within r.end (suc r.own) rs end new_end runs.1 old own later in
    let rest = place_past r.end (suc r.own) rs end new_end runs.1 a old own later lt in
    elim (place_cases r rs new_end a first.0.1) [
      | inl before ↦ absurd (omega arith)
      | inr (inl inside) ↦ absurd (omega arith)
      | inr (inr past) ↦ omega arith
    ]

-- ---- the place of an operator

own_within : (limit own : ℕ) → own < limit → own_before limit own ≡ Some own
own_within limit own lt = rw (lt-ltb own limit lt) refl

own_past : (limit own : ℕ) → limit ≤ own → own_before limit own ≡ None
own_past limit own le = rw (le-ltb own limit le) refl

pub operator_of_written : (from new_from : ℕ) (rs : List Run) (end new_end : ℕ) → AreRunsOfCode from new_from rs end new_end → (old own : ℕ) → IsWrittenAt rs new_end old own
    → operator_place rs new_end old ≡ Some own
operator_of_written from new_from [] end new_end runs old own none = elim none [ ]
operator_of_written from new_from (r ∷ rs) end new_end runs old own (inl here) =
    operator_in r rs new_end old here.0 here.1 ∙ own_within (first_gap rs new_end) (r.own + (old - r.old)) (omega arith) ∙ ap (λ n. Some n) (sym here.2)
operator_of_written from new_from (r ∷ rs) end new_end runs old own (inr later) =
    let within = written_within r.end (suc r.own) rs end new_end runs.1 old own later in
    operator_after r rs new_end old runs.0.0.1 within.0 ∙ operator_of_written r.end (suc r.own) rs end new_end runs.1 old own later

written_in_run : (r : Run) (rs : List Run) (new_end old own : ℕ) → r.old ≤ old → old < r.end → own_before (first_gap rs new_end) (r.own + (old - r.old)) ≡ Some own → IsWrittenAt (r ∷ rs) new_end old own
written_in_run r rs new_end old own low high is = elim (cases_lt (r.own + (old - r.old)) (first_gap rs new_end)) [
  | inl lt ↦
      let within = own_within (first_gap rs new_end) (r.own + (old - r.old)) lt in
      let same : own ≡ r.own + (old - r.old) = cc in
      inl (low, high, same, omega arith)
  | inr le ↦ absurd (cc (own_past (first_gap rs new_end) (r.own + (old - r.old)) le, is))
]

pub written_of_operator : (from new_from : ℕ) (rs : List Run) (end new_end : ℕ) → AreRunsOfCode from new_from rs end new_end → (old own : ℕ) → operator_place rs new_end old ≡ Some own
    → IsWrittenAt rs new_end old own
written_of_operator from new_from [] end new_end runs old own is = absurd (cc (is))
written_of_operator from new_from (r ∷ rs) end new_end runs old own is = elim (cases_lt old r.old) [
  | inl before ↦ absurd (cc (operator_before r rs new_end old before, is))
  | inr low ↦ elim (cases_lt old r.end) [
    | inl high ↦ written_in_run r rs new_end old own low high (sym (operator_in r rs new_end old low high) ∙ is)
    | inr past ↦ inr (written_of_operator r.end (suc r.own) rs end new_end runs.1 old own (sym (operator_after r rs new_end old runs.0.0.1 past) ∙ is))
  ]
]

-- ---- what is at a place

-- where what is added in front of the first operator of a run begins
abbrev pub IsGap : List Run → (new : ℕ) → Type 0
IsGap rs new = Any (λ r. new ≡ r.gap) rs

is_first_gap : (rs : List Run) (new_end new : ℕ) → new ≡ first_gap rs new_end → (new ≡ new_end) ⊎ IsGap rs new
is_first_gap [] new_end new is = inl is
is_first_gap (r ∷ rs) new_end new is = inr (0, r, omega arith, refl, is)

is_later_gap : (r : Run) (rs : List Run) (new : ℕ) → IsGap rs new → IsGap (r ∷ rs) new
is_later_gap r rs new gap = (suc gap.0, gap.1, omega arith, gap.3, gap.4)

abbrev pub IsPlaceOfRuns : List Run → (new_end a new : ℕ) → Type 0
IsPlaceOfRuns rs new_end a new = (new ≡ new_end) ⊎ (IsGap rs new ⊎ IsWrittenAt rs new_end a new)

at_gap : (r : Run) (rs : List Run) (new_end a new : ℕ) → new ≡ first_gap rs new_end → IsPlaceOfRuns (r ∷ rs) new_end a new
at_gap r rs new_end a new is = elim (is_first_gap rs new_end new is) [
  | inl end ↦ inl end
  | inr gap ↦ inr (inl (is_later_gap r rs new gap))
]

in_run : (r : Run) (rs : List Run) (new_end a new : ℕ) → r.old < a → a < r.end → new ≡ min (r.own + (a - r.old)) (first_gap rs new_end) → IsPlaceOfRuns (r ∷ rs) new_end a new
in_run r rs new_end a new after inside is = elim (cases_lt (r.own + (a - r.old)) (first_gap rs new_end)) [
  | inl lt ↦ inr (inr (inl (omega arith, inside, omega arith, omega arith)))
  | inr le ↦ at_gap r rs new_end a new (omega arith)
]

later_place : (r : Run) (rs : List Run) (new_end a new : ℕ) → IsPlaceOfRuns rs new_end a new → IsPlaceOfRuns (r ∷ rs) new_end a new
later_place r rs new_end a new (inl end) = inl end
later_place r rs new_end a new (inr (inl gap)) = inr (inl (is_later_gap r rs new gap))
later_place r rs new_end a new (inr (inr written)) = inr (inr (inr written))

pub place_of_runs : (from new_from : ℕ) (rs : List Run) (end new_end : ℕ) → AreRunsOfCode from new_from rs end new_end → (a : ℕ) → IsPlaceOfRuns rs new_end a (new_place rs new_end a)
place_of_runs from new_from [] end new_end runs a = inl refl
place_of_runs from new_from (r ∷ rs) end new_end runs a =
    elim (place_cases r rs new_end a runs.0.0.1) [
      | inl before ↦ inr (inl (0, r, omega arith, refl, before.1))
      | inr (inl inside) ↦ in_run r rs new_end a (new_place (r ∷ rs) new_end a) inside.0 inside.1 inside.2
      | inr (inr past) ↦ subst (IsPlaceOfRuns (r ∷ rs) new_end a) (sym past.1) (later_place r rs new_end a (new_place rs new_end a) (place_of_runs r.end (suc r.own) rs end new_end runs.1 a))
    ]

-- ---- a run in the middle: its end, and operators inside of it

place_at_from : (from new_from : ℕ) (rs : List Run) (end new_end : ℕ) → AreRunsOfCode from new_from rs end new_end → (a : ℕ) → a ≤ from → new_place rs new_end a ≡ first_gap rs new_end
place_at_from from new_from [] end new_end runs a le = refl
place_at_from from new_from (r ∷ rs) end new_end runs a le =
    let first = runs.0 in
    place_before r rs new_end a (omega arith)

pub run_within : (from new_from : ℕ) (front : List Run) (r : Run) (rs : List Run) (end new_end : ℕ) → AreRunsOfCode from new_from (front ++ r ∷ rs) end new_end → (from ≤ r.old) × (r.old < r.end) × (r.end ≤ end) × (r.own < new_end)
run_within from new_from [] r rs end new_end runs =
    let first = runs.0 in
    let last = runs_end r.end (suc r.own) rs end new_end runs.1 in
    (omega arith, omega arith, omega arith, omega arith)
run_within from new_from (q ∷ front) r rs end new_end runs =
    let first = runs.0 in
    let rest = run_within q.end (suc q.own) front r rs end new_end runs.1 in
    (omega arith, omega arith, omega arith, omega arith)

pub place_at_end : (from new_from : ℕ) (front : List Run) (r : Run) (rs : List Run) (end new_end : ℕ) → AreRunsOfCode from new_from (front ++ r ∷ rs) end new_end
    → new_place (front ++ r ∷ rs) new_end r.end ≡ first_gap rs new_end
place_at_end from new_from [] r rs end new_end runs =
    place_after r rs new_end r.end runs.0.0.1 (omega arith) ∙ place_at_from r.end (suc r.own) rs end new_end runs.1 r.end (omega arith)
place_at_end from new_from (q ∷ front) r rs end new_end runs =
    let within = run_within q.end (suc q.own) front r rs end new_end runs.1 in
    place_after q (front ++ r ∷ rs) new_end r.end runs.0.0.1 (omega arith) ∙ place_at_end q.end (suc q.own) front r rs end new_end runs.1

pub place_inside : (from new_from : ℕ) (front : List Run) (r : Run) (rs : List Run) (end new_end : ℕ) → AreRunsOfCode from new_from (front ++ r ∷ rs) end new_end
    → (a : ℕ) → r.old < a → a < r.end → r.own + (a - r.old) < first_gap rs new_end → new_place (front ++ r ∷ rs) new_end a ≡ r.own + (a - r.old)
place_inside from new_from [] r rs end new_end runs a after inside below =
    let is = place_in r rs new_end a after inside in
    omega arith
place_inside from new_from (q ∷ front) r rs end new_end runs a after inside below =
    let within = run_within q.end (suc q.own) front r rs end new_end runs.1 in
    place_after q (front ++ r ∷ rs) new_end a runs.0.0.1 (omega arith) ∙ place_inside q.end (suc q.own) front r rs end new_end runs.1 a after inside below
