-- Runs of locals: one more run, and the run of a local.
use Rattle.std.proofs.Common.{◌≡◌, ℕ, zero, suc, ◌+◌, ◌-◌, ◌≤◌, ◌<◌, List, [], ◌∷◌, ◌++◌, length, get_or, replicate, Some, true, false, refl, sym, ap, ◌∙◌, arith, length-append, append-nil, append_assoc}
use Rattle.std.specs.Prelude.{slice_get, slice_index_or}
use Rattle.std.specs.List.{AllWithin}
use Rattle.std.specs.List.Sorted.{IsNonDecreasingBy, IsPartitionPoint}
use Rattle.std.specs.Option.{option_map}
use Rattle.std.proofs.lemmas.Bool.{leb-true, leb-false}
use Rattle.std.proofs.lemmas.List.{length-replicate}
use lib.Dec.{leb}
use Rattle.wasm_locals.specs.declared.run.LocalRun.{LocalRun}
use Rattle.wasm_locals.specs.Runs.{types_of_runs, RunsLeadTo, end_of_runs}

-- one more run
pub types_from-push : (before : ℕ) (rs : List LocalRun) (count : ℕ) (r : LocalRun) → RunsLeadTo before rs count
    → types_of_runs before (rs ++ r ∷ []) ≡ types_of_runs before rs ++ replicate (r.end - count) r.ty
types_from-push before [] count r h = append-nil (replicate (r.end - before) r.ty) ∙ ap (λ n. replicate (r.end - n) r.ty) h
types_from-push before (s ∷ rs) count r h =
    ap (λ ts. replicate (s.end - before) s.ty ++ ts) (types_from-push s.end rs count r h.1)
    ∙ sym (append_assoc (replicate (s.end - before) s.ty) (types_of_runs s.end rs) (replicate (r.end - count) r.ty))

pub leads_to-push : (before : ℕ) (rs : List LocalRun) (count : ℕ) (r : LocalRun) → RunsLeadTo before rs count → count ≤ r.end → RunsLeadTo before (rs ++ r ∷ []) r.end
leads_to-push before [] count r h more = (omega (arith, h), refl)
leads_to-push before (s ∷ rs) count r h more = (h.0, leads_to-push s.end rs count r h.1 more)

-- the runs' ends ascend
ends_from : (before : ℕ) (rs : List LocalRun) (count : ℕ) → RunsLeadTo before rs count → (j : ℕ) (d : LocalRun) → j < length rs → before ≤ (get_or rs j d).end
ends_from before [] count h j d within = absurd (omega arith)
ends_from before (r ∷ rs) count h zero d within = h.0
ends_from before (r ∷ rs) count h (suc j) d within =
    let first = h.0 in
    let rest = ends_from r.end rs count h.1 j d (omega arith) in
    omega arith

pub ends_ascend : (before : ℕ) (rs : List LocalRun) (count : ℕ) → RunsLeadTo before rs count → IsNonDecreasingBy end_of_runs rs
ends_ascend before [] count h i j d le within = absurd (omega arith)
ends_ascend before (r ∷ rs) count h zero zero d le within = omega arith
ends_ascend before (r ∷ rs) count h zero (suc j) d le within = ends_from r.end rs count h.1 j d (omega arith)
ends_ascend before (r ∷ rs) count h (suc i) zero d le within = absurd (omega arith)
ends_ascend before (r ∷ rs) count h (suc i) (suc j) d le within = ends_ascend r.end rs count h.1 i j d (omega arith) (omega arith)

-- the same, run by run
abbrev Ascend : (before : ℕ) → List LocalRun → Type 0
Ascend before [] = Unit {0}
Ascend before (r ∷ rs) = (before ≤ r.end) × Ascend r.end rs

ascend : (before : ℕ) (rs : List LocalRun) → ((j : ℕ) (d : LocalRun) → j < length rs → before ≤ (get_or rs j d).end) → IsNonDecreasingBy end_of_runs rs → Ascend before rs
ascend before [] from sorted = tt
ascend before (r ∷ rs) from sorted =
    (from 0 r (omega arith), ascend r.end rs (λ j d within. sorted 0 (suc j) d (omega arith) (omega arith)) (λ i j d le within. sorted (suc i) (suc j) d (omega arith) (omega arith)))

-- inside of a run, and after it
inside_run : {X : Type 0} (n : ℕ) (y : X) (xs : List X) (k : ℕ) → k < n → slice_get (replicate n y ++ xs) k ≡ Some y
inside_run zero y xs k within = absurd (omega arith)
inside_run (suc n) y xs zero within = refl
inside_run (suc n) y xs (suc k) within = inside_run n y xs k (omega arith)

after_run : {X : Type 0} (n : ℕ) (y : X) (xs : List X) (k m : ℕ) → n + m ≡ k → slice_get (replicate n y ++ xs) k ≡ slice_get xs m
after_run zero y xs k m is = ap (slice_get xs) (let e : k ≡ m = omega arith in e)
after_run (suc n) y xs zero m is = absurd (omega arith)
after_run (suc n) y xs (suc k) m is = after_run n y xs k m (omega arith)

-- the test by which the run of a local is found
abbrev pub EndsBy : ℕ → LocalRun → Type 0
EndsBy id r = leb r.end id ≡ true

abbrev pub EndsAfter : ℕ → LocalRun → Type 0
EndsAfter id r = leb r.end id ≡ false

run_of : (before : ℕ) (rs : List LocalRun) → Ascend before rs → (id i k : ℕ) → before + k ≡ id
    → AllWithin (EndsBy id) rs 0 i → AllWithin (EndsAfter id) rs i (length rs)
    → slice_get (types_of_runs before rs) k ≡ option_map (λ (r : LocalRun). r.ty) (slice_get rs i)
run_of before [] h id i k is by after = refl
run_of before (r ∷ rs) h id zero k is by after =
    let first = h.0 in
    let ends = leb-false r.end id (after 0 r (omega arith) (omega arith)) in
    inside_run (r.end - before) r.ty (types_of_runs r.end rs) k (omega arith)
run_of before (r ∷ rs) h id (suc i) k is by after =
    let first = h.0 in
    let ends = leb-true r.end id (by 0 r (omega arith) (omega arith)) in
    let rest : r.end + (id - r.end) ≡ id = omega arith in
    after_run (r.end - before) r.ty (types_of_runs r.end rs) k (id - r.end) (omega arith)
    ∙ run_of r.end rs h.1 id i (id - r.end) rest
    (λ j d low high. by (suc j) d (omega arith) (omega arith))
    (λ j d low high. after (suc j) d (omega arith) (omega arith))

pub type_of_local : (rs : List LocalRun) → IsNonDecreasingBy end_of_runs rs → (id i : ℕ) → IsPartitionPoint (EndsBy id) (EndsAfter id) rs i
    → slice_get (types_of_runs 0 rs) id ≡ option_map (λ (r : LocalRun). r.ty) (slice_get rs i)
type_of_local rs sorted id i at = run_of 0 rs (ascend 0 rs (λ j d within. omega arith) sorted) id i id (omega arith) at.0 at.1

pub type_in_first : (rs : List LocalRun) (d : LocalRun) (id : ℕ) → 1 ≤ length rs → id < (slice_index_or rs 0 d).end
    → Some (slice_index_or rs 0 d).ty ≡ slice_get (types_of_runs 0 rs) id
type_in_first [] d id some within = absurd (omega arith)
type_in_first (r ∷ rs) d id some within = sym (inside_run (r.end - 0) r.ty (types_of_runs r.end rs) id (omega arith))
