-- The runs of a body while its operators are pushed: the end moves on, a run is added, the last run becomes longer.
use Rattle.std.proofs.Common.{inl, inr, ◌≡◌, ℕ, suc, ◌+◌, ◌-◌, ◌<◌, ◌≤◌, false, List, [], ◌∷◌, ◌++◌, Option, Some, None, refl, sym, ap, subst, ◌∙◌, arith}
use Rattle.std.specs.Prelude.{min, unwrap_or, is_some, nat_lt, nat_le, ◌&&◌, ◌||◌}
use Rattle.std.proofs.lemmas.Bool.{lt-ltb, le-ltb, le-leb, lt-leb, cases_lt}
use Rattle.std.proofs.lemmas.Bool.Decides.{nat_tests}
use Rattle.code_moves.specs.declared.run.Run.{Run}
use Rattle.code_moves.specs.Order.{AreRunsOfCode}
use Rattle.code_moves.specs.Moves.{first_gap, new_place, ends_written, IsWrittenAt}
use Rattle.code_moves.proofs.RunSearch.{runs_end, place_before, place_in, place_after}
use Rattle.code_moves.proofs.RunLaws.{place_cases, run_within}

pub later_default : (o : Option ℕ) (n m : ℕ) → n ≤ m → unwrap_or o n ≤ unwrap_or o m
later_default None n m le = le
later_default (Some x) n m le = omega arith

pub default_until : (o : Option ℕ) (n m : ℕ) → unwrap_or o n ≤ n → n ≤ m → unwrap_or o m ≤ m
default_until None n m until le = omega arith
default_until (Some x) n m until le = omega arith

pub none_of : (o : Option ℕ) → false ≡ is_some o → o ≡ None
none_of None is = refl
none_of (Some x) is = absurd (cc)

-- ---- the end moves on

pub runs_longer : (from new_from : ℕ) (rs : List Run) (end new_end : ℕ) → AreRunsOfCode from new_from rs end new_end → (more new_more : ℕ) → end ≤ more → new_end ≤ new_more
    → AreRunsOfCode from new_from rs more new_more
runs_longer from new_from [] end new_end runs more new_more le new_le = (omega arith, omega arith)
runs_longer from new_from (r ∷ rs) end new_end runs more new_more le new_le = (runs.0, runs_longer r.end (suc r.own) rs end new_end runs.1 more new_more le new_le)

gap_longer : (rs : List Run) (new_end more : ℕ) → new_end ≤ more → first_gap rs new_end ≤ first_gap rs more
gap_longer [] new_end more le = le
gap_longer (r ∷ rs) new_end more le = omega arith

pub written_longer : (rs : List Run) (new_end more old own : ℕ) → new_end ≤ more → IsWrittenAt rs new_end old own → IsWrittenAt rs more old own
written_longer [] new_end more old own le none = none
written_longer (r ∷ rs) new_end more old own le (inl here) =
    let gap = gap_longer rs new_end more le in
    inl (here.0, here.1, here.2, omega arith)
written_longer (r ∷ rs) new_end more old own le (inr later) = inr (written_longer rs new_end more old own le later)

-- an operator that is written is in a run, whose gap stays
gap_same : (rs : List Run) (new_end more old own : ℕ) → IsWrittenAt rs new_end old own → first_gap rs more ≡ first_gap rs new_end
gap_same [] new_end more old own none = elim none [ ]
gap_same (r ∷ rs) new_end more old own written = refl

pub place_longer : (from new_from : ℕ) (rs : List Run) (end new_end : ℕ) → AreRunsOfCode from new_from rs end new_end → (more old own a : ℕ) → new_end ≤ more → IsWrittenAt rs new_end old own → a ≤ old
    → new_place rs more a ≡ new_place rs new_end a
place_longer from new_from [] end new_end runs more old own a le none until = elim none [ ]
place_longer from new_from (r ∷ rs) end new_end runs more old own a le (inl here) until =
    let first = runs.0 in
    let gap = gap_longer rs new_end more le in
    elim (cases_lt r.old a) [
      | inl after ↦
          let short = place_in r rs new_end a after (omega arith) in
          let long = place_in r rs more a after (omega arith) in
          omega arith
      | inr before ↦ place_before r rs more a before ∙ sym (place_before r rs new_end a before)
    ]
place_longer from new_from (r ∷ rs) end new_end runs more old own a le (inr later) until =
    let first = runs.0 in
    let gap = gap_same rs new_end more old own later in
    elim (place_cases r rs new_end a first.0.1) [
      | inl before ↦ place_before r rs more a before.0 ∙ sym before.1
      | inr (inl inside) ↦ place_in r rs more a inside.0 inside.1 ∙ ap (min (r.own + (a - r.old))) gap ∙ sym inside.2
      | inr (inr past) ↦ place_after r rs more a first.0.1 past.0 ∙ place_longer r.end (suc r.own) rs end new_end runs.1 more old own a le later until ∙ sym past.1
    ]

-- ---- a run is added

pub runs_append : (from new_from : ℕ) (rs : List Run) (r : Run) → AreRunsOfCode from new_from rs r.old r.gap → r.old < r.end → r.gap ≤ r.own → AreRunsOfCode from new_from (rs ++ r ∷ []) r.end (suc r.own)
runs_append from new_from [] r runs some le = (((runs.0, some), (runs.1, le)), (omega arith, omega arith))
runs_append from new_from (q ∷ rs) r runs some le = (runs.0, runs_append q.end (suc q.own) rs r runs.1 some le)

gap_append : (rs : List Run) (r : Run) (new_end : ℕ) → first_gap (rs ++ r ∷ []) new_end ≡ first_gap rs r.gap
gap_append [] r new_end = refl
gap_append (q ∷ rs) r new_end = refl

pub written_append : (rs : List Run) (r : Run) (new_end old own : ℕ) → IsWrittenAt rs r.gap old own → IsWrittenAt (rs ++ r ∷ []) new_end old own
written_append [] r new_end old own none = elim none [ ]
written_append (q ∷ rs) r new_end old own (inl here) = inl (here.0, here.1, here.2, subst (λ g. own < g) (sym (gap_append rs r new_end)) here.3)
written_append (q ∷ rs) r new_end old own (inr later) = inr (written_append rs r new_end old own later)

-- the first operator of a last run is written
pub first_written : (rs : List Run) (r : Run) (new_end old own : ℕ) → r.old ≤ old → old < r.end → own ≡ r.own + (old - r.old) → own < new_end → IsWrittenAt (rs ++ r ∷ []) new_end old own
first_written [] r new_end old own low high is lt = inl (low, high, is, lt)
first_written (q ∷ rs) r new_end old own low high is lt = inr (first_written rs r new_end old own low high is lt)

pub place_append : (from new_from : ℕ) (rs : List Run) (r : Run) → AreRunsOfCode from new_from rs r.old r.gap → (new_end a : ℕ) → a ≤ r.old → new_place (rs ++ r ∷ []) new_end a ≡ new_place rs r.gap a
place_append from new_from [] r runs new_end a le = place_before r [] new_end a le
place_append from new_from (q ∷ rs) r runs new_end a le =
    let first = runs.0 in
    elim (place_cases q rs r.gap a first.0.1) [
      | inl before ↦ place_before q (rs ++ r ∷ []) new_end a before.0 ∙ sym before.1
      | inr (inl inside) ↦ place_in q (rs ++ r ∷ []) new_end a inside.0 inside.1 ∙ ap (min (q.own + (a - q.old))) (gap_append rs r new_end) ∙ sym inside.2
      | inr (inr past) ↦ place_after q (rs ++ r ∷ []) new_end a first.0.1 past.0 ∙ place_append q.end (suc q.own) rs r runs.1 new_end a le ∙ sym past.1
    ]

-- after all runs
pub place_after_end : (from new_from : ℕ) (rs : List Run) (end new_end : ℕ) → AreRunsOfCode from new_from rs end new_end → (a : ℕ) → end ≤ a → new_place rs new_end a ≡ new_end
place_after_end from new_from [] end new_end runs a le = refl
place_after_end from new_from (r ∷ rs) end new_end runs a le =
    let last = runs_end r.end (suc r.own) rs end new_end runs.1 in
    place_after r rs new_end a runs.0.0.1 (omega arith) ∙ place_after_end r.end (suc r.own) rs end new_end runs.1 a le

ends_first : (r : Run) (a : ℕ) → ends_written (r ∷ []) a ≡ (nat_lt r.old a && nat_le a r.end)
ends_first r a = grind (arith, nat_tests)

pub ends_append : (from new_from : ℕ) (rs : List Run) (r : Run) → AreRunsOfCode from new_from rs r.old r.gap → (a : ℕ) → ends_written (rs ++ r ∷ []) a ≡ (ends_written rs a || (nat_lt r.old a && nat_le a r.end))
ends_append from new_from [] r runs a = ends_first r a
ends_append from new_from (q ∷ rs) r runs a =
    let first = runs.0 in
    let last = runs_end q.end (suc q.own) rs r.old r.gap runs.1 in
    elim (cases_lt q.old a) [
      | inl after ↦ elim (cases_lt q.end a) [
        | inl past ↦ rw (lt-ltb q.old a after, lt-leb a q.end past) (ends_append q.end (suc q.own) rs r runs.1 a)
        | inr inside ↦ rw (lt-ltb q.old a after, le-leb a q.end inside) refl
      ]
      | inr before ↦ rw (le-ltb q.old a before, le-ltb r.old a (omega arith)) refl
    ]

-- ---- the last run becomes longer

-- up to this end
abbrev pub longer : Run → (end : ℕ) → Run
longer r more = record r { end = more }

pub runs_extend : (from new_from : ℕ) (front : List Run) (r : Run) (end new_end : ℕ) → AreRunsOfCode from new_from (front ++ r ∷ []) end new_end → (more new_more : ℕ) → r.end ≤ more → new_end ≤ new_more
    → AreRunsOfCode from new_from (front ++ longer r more ∷ []) more new_more
runs_extend from new_from [] r end new_end runs more new_more le new_le = ((((runs.0.0.0, omega arith), runs.0.1)), (omega arith, omega arith))
runs_extend from new_from (q ∷ front) r end new_end runs more new_more le new_le = (runs.0, runs_extend q.end (suc q.own) front r end new_end runs.1 more new_more le new_le)

gap_extend : (front : List Run) (r : Run) (more new_end : ℕ) → first_gap (front ++ longer r more ∷ []) new_end ≡ first_gap (front ++ r ∷ []) new_end
gap_extend [] r more new_end = refl
gap_extend (q ∷ front) r more new_end = refl

pub written_extend : (front : List Run) (r : Run) (more new_end old own : ℕ) → r.end ≤ more → IsWrittenAt (front ++ r ∷ []) new_end old own → IsWrittenAt (front ++ longer r more ∷ []) new_end old own
written_extend [] r more new_end old own le (inl here) = inl (here.0, omega arith, here.2, here.3)
written_extend [] r more new_end old own le (inr none) = elim none [ ]
written_extend (q ∷ front) r more new_end old own le (inl here) = inl (here.0, here.1, here.2, subst (λ g. own < g) (sym (gap_extend front r more new_end)) here.3)
written_extend (q ∷ front) r more new_end old own le (inr later) = inr (written_extend front r more new_end old own le later)

pub place_extend : (from new_from : ℕ) (front : List Run) (r : Run) (end end2 : ℕ) → AreRunsOfCode from new_from (front ++ r ∷ []) end end2 → (more new_end a : ℕ) → r.end ≤ more → a < r.end
    → new_place (front ++ longer r more ∷ []) new_end a ≡ new_place (front ++ r ∷ []) new_end a
place_extend from new_from [] r end end2 runs more new_end a le lt = elim (cases_lt r.old a) [
  | inl after ↦ place_in (longer r more) [] new_end a after (omega arith) ∙ sym (place_in r [] new_end a after lt)
  | inr before ↦ place_before (longer r more) [] new_end a before ∙ sym (place_before r [] new_end a before)
]
place_extend from new_from (q ∷ front) r end end2 runs more new_end a le lt =
    elim (place_cases q (front ++ r ∷ []) new_end a runs.0.0.1) [
      | inl before ↦ place_before q (front ++ longer r more ∷ []) new_end a before.0 ∙ sym before.1
      | inr (inl inside) ↦ place_in q (front ++ longer r more ∷ []) new_end a inside.0 inside.1 ∙ ap (min (q.own + (a - q.old))) (gap_extend front r more new_end) ∙ sym inside.2
      | inr (inr past) ↦ place_after q (front ++ longer r more ∷ []) new_end a runs.0.0.1 past.0
          ∙ place_extend q.end (suc q.own) front r end end2 runs.1 more new_end a le lt ∙ sym past.1
    ]

ends_longer : (r : Run) (more a : ℕ) → r.old < r.end → r.end ≤ more → ends_written (longer r more ∷ []) a ≡ (ends_written (r ∷ []) a || (nat_lt r.end a && nat_le a more))
ends_longer r more a some le = grind (arith, nat_tests)

pub ends_extend : (from new_from : ℕ) (front : List Run) (r : Run) (end new_end : ℕ) → AreRunsOfCode from new_from (front ++ r ∷ []) end new_end → (more a : ℕ) → r.end ≤ more
    → ends_written (front ++ longer r more ∷ []) a ≡ (ends_written (front ++ r ∷ []) a || (nat_lt r.end a && nat_le a more))
ends_extend from new_from [] r end new_end runs more a le = ends_longer r more a runs.0.0.1 le
ends_extend from new_from (q ∷ front) r end new_end runs more a le =
    let first = runs.0 in
    let within = run_within q.end (suc q.own) front r [] end new_end runs.1 in
    elim (cases_lt q.old a) [
      | inl after ↦ elim (cases_lt q.end a) [
        | inl past ↦ rw (lt-ltb q.old a after, lt-leb a q.end past) (ends_extend q.end (suc q.own) front r end new_end runs.1 more a le)
        | inr inside ↦ rw (lt-ltb q.old a after, le-leb a q.end inside) refl
      ]
      | inr before ↦ rw (le-ltb q.old a before, le-ltb r.end a (omega arith)) refl
    ]
