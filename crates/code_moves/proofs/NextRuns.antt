-- The runs of a body after its next operator of the source, which is written.
use Rattle.std.proofs.Common.{◌≡◌, ℕ, suc, ◌+◌, ◌-◌, ◌<◌, ◌≤◌, List, [], ◌∷◌, ◌++◌, length, set, take, Some, None, sym, ap, subst, ◌∙◌, arith}
use Rattle.std.specs.Prelude.{unwrap_or, slice_get, nat_lt, nat_le, ◌&&◌, ◌||◌}
use Rattle.std.proofs.lemmas.List.{take_all, take_more, take_more_set}
use Rattle.std.proofs.Math.ListN.{length-set}
use Rattle.std.proofs.lemmas.Option.{slice_get_within, get_or_from_slice_get}
use Rattle.code_moves.specs.declared.run.Run.{Run}
use Rattle.code_moves.specs.declared.runs.Runs.{Runs}
use Rattle.code_moves.specs.Order.{AreRunsOfCode}
use Rattle.code_moves.specs.Moves.{new_place, ends_written, IsWrittenAt}
use Rattle.code_moves.specs.Building.{IsWrittenSoFar, place_so_far, FollowsOfCode}
use Rattle.code_moves.proofs.RunLaws.{run_within, written_within, place_inside}
use Rattle.code_moves.proofs.Building.{later_default, default_until, runs_longer, written_longer, place_longer, runs_append, written_append, first_written, place_append, place_after_end, ends_append, longer, runs_extend, written_extend, place_extend, ends_extend}

-- what is known of them
pub record NextRuns (built : Runs) (old end own : ℕ) (rs : List Run) : Type 0 where
  pub are_runs : AreRunsOfCode (suc built.begin) (suc built.new_begin) rs end (suc own)
  pub written : IsWrittenAt rs (suc own) old own
  pub front : (a : ℕ) → built.source < a → a ≤ old → new_place rs (suc own) a ≡ unwrap_or built.added own
  pub ends : (a : ℕ) → ends_written rs a ≡ (ends_written built.runs.items a || (nat_lt old a && nat_le a end))
  pub kept : (k w : ℕ) → IsWrittenSoFar built k w → IsWrittenAt rs (suc own) k w
  pub places : (k w a : ℕ) → IsWrittenSoFar built k w → a ≤ k → new_place rs (suc own) a ≡ place_so_far built a

-- ---- it begins a run

pub next_run : (built : Runs) (r : Run) → r.gap ≡ unwrap_or built.added r.own → built.source < r.old → r.old < r.end → built.last < r.own → NextRuns built r.old r.end r.own (built.runs.items ++ r ∷ [])
next_run built r gap after some new_after =
    let from = suc built.begin in
    let new_from = suc built.new_begin in
    let rs = built.runs.items in
    let limit_by_gap : unwrap_or built.added (suc built.last) ≤ r.gap = subst (λ g. unwrap_or built.added (suc built.last) ≤ g) (sym gap) (later_default built.added (suc built.last) r.own (omega arith)) in
    let until = default_until built.added (suc built.last) r.own built.added_by_last (omega arith) in
    let runs = runs_longer from new_from rs (suc built.source) (unwrap_or built.added (suc built.last)) built.are_runs r.old r.gap (omega arith) limit_by_gap in
    record {
      are_runs = runs_append from new_from rs r runs some (omega arith);
      written = first_written rs r (suc r.own) r.old r.own (omega arith) some (omega arith) (omega arith);
      front = λ a low high. place_append from new_from rs r runs (suc r.own) a high
          ∙ place_after_end from new_from rs (suc built.source) r.gap (runs_longer from new_from rs (suc built.source) (unwrap_or built.added (suc built.last)) built.are_runs (suc built.source) r.gap (omega arith) limit_by_gap) a low ∙ gap;
      ends = λ a. ends_append from new_from rs r runs a;
      kept = λ k w is. written_append rs r (suc r.own) k w (written_longer rs (unwrap_or built.added (suc built.last)) r.gap k w limit_by_gap is);
      places = λ k w a is until.
          let within = written_within from new_from rs (suc built.source) (unwrap_or built.added (suc built.last)) built.are_runs k w is in
          place_append from new_from rs r runs (suc r.own) a (omega arith)
          ∙ place_longer from new_from rs (suc built.source) (unwrap_or built.added (suc built.last)) built.are_runs r.gap k w a limit_by_gap is until;
    }

-- ---- the last run becomes longer

next_of_last : (built : Runs) (front : List Run) (last : Run) (old end own : ℕ) → built.runs.items ≡ front ++ last ∷ [] → built.added ≡ None → last.end ≡ old → own ≡ last.own + (old - last.old)
    → built.source < old → old < end → built.last < own → NextRuns built old end own (front ++ longer last end ∷ [])
next_of_last built front last old end own is none_added ends next after some new_after =
    let from = suc built.begin in
    let new_from = suc built.new_begin in
    let e = suc built.source in
    let lim = unwrap_or built.added (suc built.last) in
    let lim_is : unwrap_or built.added (suc built.last) ≡ suc built.last = ap (λ o. unwrap_or o (suc built.last)) none_added in
    let runs : AreRunsOfCode from new_from (front ++ last ∷ []) e lim = subst (λ rs. AreRunsOfCode from new_from rs e lim) is built.are_runs in
    let within = run_within from new_from front last [] e lim runs in
    let new_runs = runs_extend from new_from front last e lim runs end (suc own) (omega arith) (omega arith) in
    record {
      are_runs = new_runs;
      written = first_written front (longer last end) (suc own) old own (omega arith) some next (omega arith);
      front = λ a low high.
          let same : a ≡ old = omega arith in
          ap (new_place (front ++ longer last end ∷ []) (suc own)) same
          ∙ place_inside from new_from front (longer last end) [] end (suc own) new_runs old (omega arith) some (omega arith)
          ∙ sym next ∙ sym (ap (λ o. unwrap_or o own) none_added);
      ends = λ a. ends_extend from new_from front last e lim runs end a (omega arith)
          ∙ (λ i. ends_written (sym is i) a || (nat_lt (ends i) a && nat_le a end));
      kept = λ k w at.
          written_extend front last end (suc own) k w (omega arith) (written_longer (front ++ last ∷ []) lim (suc own) k w (omega arith) (subst (λ rs. IsWrittenAt rs lim k w) is at));
      places = λ k w a at until.
          let there = subst (λ rs. IsWrittenAt rs lim k w) is at in
          let k_within = written_within from new_from (front ++ last ∷ []) e lim runs k w there in
          place_extend from new_from front last e lim runs end (suc own) a (omega arith) (omega arith)
          ∙ place_longer from new_from (front ++ last ∷ []) e lim runs (suc own) k w a (omega arith) there until ∙ sym (ap (λ rs. new_place rs lim a) is);
    }

-- the last of a list
last_of : {X : Type 0} (xs : List X) (x : X) → slice_get xs (length xs - 1) ≡ Some x → xs ≡ take (length xs - 1) xs ++ x ∷ []
last_of xs x is =
    let n = length xs - 1 in
    let some = slice_get_within xs n x is in
    sym (take_all (n + 1) xs (omega arith)) ∙ take_more xs n x some ∙ ap (λ y. take n xs ++ y ∷ []) (get_or_from_slice_get xs n x x is)

-- where the last run is
pub last_within : (built : Runs) (last : Run) → slice_get built.runs.items (length built.runs.items - 1) ≡ Some last → (last.old < last.end) × (last.end ≤ suc built.source) × (last.own ≤ built.last)
last_within built last is =
    let rs = built.runs.items in
    let lim = unwrap_or built.added (suc built.last) in
    let by_last = built.added_by_last in
    let within = run_within (suc built.begin) (suc built.new_begin) (take (length rs - 1) rs) last [] (suc built.source) lim (subst (λ qs. AreRunsOfCode (suc built.begin) (suc built.new_begin) qs (suc built.source) lim) (last_of rs last is) built.are_runs) in
    (omega arith, omega arith, omega arith)

set_last : {X : Type 0} (xs : List X) (x y : X) → slice_get xs (length xs - 1) ≡ Some x → set xs (length xs - 1) y ≡ take (length xs - 1) xs ++ y ∷ []
set_last xs x y is =
    let n = length xs - 1 in
    let some = slice_get_within xs n x is in
    let long = length-set xs n y in
    sym (take_all (n + 1) (set xs n y) (omega arith)) ∙ take_more_set xs n y some

pub next_longer : (built : Runs) (old end own : ℕ) (run : Run) → FollowsOfCode built old end own run → built.source < old → old < end → built.last < own
    → NextRuns built old end own (set built.runs.items (length built.runs.items - 1) run)
next_longer built old end own run follows after some new_after =
    let rs = built.runs.items in
    subst (NextRuns built old end own) (sym (set_last rs follows.last run follows.is_last ∙ ap (λ r. take (length rs - 1) rs ++ r ∷ []) follows.longer))
    (next_of_last built (take (length rs - 1) rs) follows.last old end own (last_of rs follows.last follows.is_last) follows.none_added follows.ends follows.next after some new_after)
