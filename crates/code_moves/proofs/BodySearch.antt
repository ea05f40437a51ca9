-- The bodies of a module up to where a bisection by their ends ends, and one more body.
use Rattle.std.proofs.Common.{◌≡◌, ℕ, zero, suc, ◌<◌, ◌≤◌, Bool, true, false, ltb, List, [], ◌∷◌, ◌++◌, length, drop, Some, None, refl, sym, subst, arith}
use Rattle.std.specs.Prelude.{slice_get, option_and_then}
use Rattle.std.specs.Option.{option_map_or}
use Rattle.std.specs.List.{AllWithin}
use Rattle.std.specs.List.Sorted.{IsNonDecreasingBy}
use Rattle.std.proofs.lemmas.Bool.{ltb-true, le-leb, lt-leb}
use Rattle.std.proofs.lemmas.Bool.Decides.{nat_tests}
use Rattle.code_moves.specs.declared.body.Body.{Body}
use Rattle.code_moves.specs.OrderedBodies.{AreOrdered}
use Rattle.code_moves.specs.Moves.{has_address, moved_in, body_with_address, address_moved, operator_place, operator_moved, ends_written, ends_written_at}
use Rattle.code_moves.proofs.Bisection.{RiseFrom, rise}
use Rattle.code_moves.proofs.RunSearch.{runs_end}

-- ---- a body is in order

pub body_ends : (b : Body) → (b.begin < b.end) × (b.new_begin < b.new_end)
body_ends b = runs_end (suc b.begin) (suc b.new_begin) b.runs.items b.end b.new_end b.are_runs

ends_from : (low from new_from : ℕ) (bs : List Body) → AreOrdered from new_from bs → low ≤ from → RiseFrom (λ (b : Body). b.end) low bs
ends_from low from new_from [] ordered le = tt
ends_from low from new_from (b ∷ bs) ordered le =
    let first = ordered.0 in
    let size = body_ends b in
    (omega arith, ends_from b.end (suc b.end) (suc b.new_end) bs ordered.1 (omega arith))

pub ends_rise : (from new_from : ℕ) (bs : List Body) → AreOrdered from new_from bs → IsNonDecreasingBy (λ (b : Body). b.end) bs
ends_rise from new_from bs ordered = rise (λ (b : Body). b.end) from bs (ends_from from from new_from bs ordered (omega arith))

-- ---- one body

pub has_in : (b : Body) (a : ℕ) → b.begin ≤ a → a ≤ b.end → has_address b a ≡ true
has_in b a low high = rw (le-leb b.begin a low) (le-leb a b.end high)

pub has_before : (b : Body) (a : ℕ) → a < b.begin → has_address b a ≡ false
has_before b a before = rw (lt-leb b.begin a before) refl

pub has_after : (b : Body) (a : ℕ) → b.end < a → has_address b a ≡ false
has_after b a after = grind (arith, nat_tests)

-- ---- the bodies that are passed

pub body_at_passes : (bs : List Body) (a at : ℕ) → AllWithin (λ (b : Body). ltb b.end a ≡ true) bs 0 at → body_with_address bs a ≡ body_with_address (drop at bs) a
body_at_passes bs a zero by = refl
body_at_passes [] a (suc at) by = refl
body_at_passes (b ∷ bs) a (suc at) by =
    let after : b.end < a = ltb-true b.end a (by 0 b (omega arith) (omega arith)) in
    rw (has_after b a after) (body_at_passes bs a at (λ k d low high. by (suc k) d (omega arith) (omega arith)))

-- ---- those that are left

pub body_at_first : (b : Body) (bs : List Body) (a : ℕ) → b.begin ≤ a → a ≤ b.end → body_with_address (b ∷ bs) a ≡ Some b
body_at_first b bs a low high = rw (has_in b a low high) refl

pub no_body : (from new_from : ℕ) (bs : List Body) → AreOrdered from new_from bs → (a : ℕ) → a < from → body_with_address bs a ≡ None
no_body from new_from [] ordered a before = refl
no_body from new_from (b ∷ bs) ordered a before =
    let first = ordered.0 in
    let size = body_ends b in
    rw (has_before b a (omega arith)) (no_body (suc b.end) (suc b.new_end) bs ordered.1 a (omega arith))

ordered_lower : (low new_low from new_from : ℕ) (bs : List Body) → AreOrdered from new_from bs → low ≤ from → new_low ≤ new_from → AreOrdered low new_low bs
ordered_lower low new_low from new_from [] ordered le new_le = tt
ordered_lower low new_low from new_from (b ∷ bs) ordered le new_le =
    let first = ordered.0 in
    ((omega arith, omega arith), ordered.1)

ordered_drop : (from new_from : ℕ) (bs : List Body) → AreOrdered from new_from bs → (at : ℕ) → AreOrdered from new_from (drop at bs)
ordered_drop from new_from bs ordered zero = ordered
ordered_drop from new_from [] ordered (suc at) = tt
ordered_drop from new_from (b ∷ bs) ordered (suc at) =
    let first = ordered.0 in
    let size = body_ends b in
    ordered_lower from new_from (suc b.end) (suc b.new_end) (drop at bs) (ordered_drop (suc b.end) (suc b.new_end) bs ordered.1 at) (omega arith) (omega arith)

pub no_body_from : (from new_from : ℕ) (bs : List Body) → AreOrdered from new_from bs → (at : ℕ) (b : Body) (rest : List Body) → drop at bs ≡ b ∷ rest → (a : ℕ) → a < b.begin
    → body_with_address (b ∷ rest) a ≡ None
no_body_from from new_from bs ordered at b rest is a before =
    let left = subst (AreOrdered from new_from) is (ordered_drop from new_from bs ordered at) in
    no_body b.begin b.new_begin (b ∷ rest) ((omega arith, omega arith), left.1) a before

-- ---- what the body of an address says of it

moved_by : (b : Body) (bs : List Body) (a : ℕ) (test : Bool) → address_moved bs a ≡ option_and_then (λ (c : Body). moved_in c a) (body_with_address bs a) → has_address b a ≡ test
    → address_moved (b ∷ bs) a ≡ option_and_then (λ (c : Body). moved_in c a) (body_with_address (b ∷ bs) a)
moved_by b bs a true rest is = rw is (sym (rw is refl))
moved_by b bs a false rest is = rw is rest

pub moved_of : (bs : List Body) (a : ℕ) → address_moved bs a ≡ option_and_then (λ (b : Body). moved_in b a) (body_with_address bs a)
moved_of [] a = refl
moved_of (b ∷ bs) a = moved_by b bs a (has_address b a) (moved_of bs a) refl

operator_by : (b : Body) (bs : List Body) (a : ℕ) (test : Bool) → operator_moved bs a ≡ option_and_then (λ (c : Body). operator_place c.runs.items c.new_end a) (body_with_address bs a) → has_address b a ≡ test
    → operator_moved (b ∷ bs) a ≡ option_and_then (λ (c : Body). operator_place c.runs.items c.new_end a) (body_with_address (b ∷ bs) a)
operator_by b bs a true rest is = rw is refl
operator_by b bs a false rest is = rw is rest

pub operator_of_body : (bs : List Body) (a : ℕ) → operator_moved bs a ≡ option_and_then (λ (b : Body). operator_place b.runs.items b.new_end a) (body_with_address bs a)
operator_of_body [] a = refl
operator_of_body (b ∷ bs) a = operator_by b bs a (has_address b a) (operator_of_body bs a) refl

written_by : (b : Body) (bs : List Body) (a : ℕ) (test : Bool) → ends_written_at bs a ≡ option_map_or (λ (c : Body). ends_written c.runs.items a) (body_with_address bs a) false → has_address b a ≡ test
    → ends_written_at (b ∷ bs) a ≡ option_map_or (λ (c : Body). ends_written c.runs.items a) (body_with_address (b ∷ bs) a) false
written_by b bs a true rest is = rw is refl
written_by b bs a false rest is = rw is rest

pub written_of : (bs : List Body) (a : ℕ) → ends_written_at bs a ≡ option_map_or (λ (b : Body). ends_written b.runs.items a) (body_with_address bs a) false
written_of [] a = refl
written_of (b ∷ bs) a = written_by b bs a (has_address b a) (written_of bs a) refl

-- ---- one more body

-- after the last one
pub ordered_more : (from new_from : ℕ) (bs : List Body) → AreOrdered from new_from bs → (n : ℕ) (last b : Body) → suc n ≡ length bs → slice_get bs n ≡ Some last
    → last.end < b.begin → last.new_end < b.new_begin → AreOrdered from new_from (bs ++ b ∷ [])
ordered_more from new_from [] ordered n last b count is after new_after = absurd (omega arith)
ordered_more from new_from (c ∷ []) ordered zero last b count is after new_after =
    let same : c ≡ last = cc in
    (ordered.0, subst (λ (e : Body). AreOrdered (suc e.end) (suc e.new_end) (b ∷ [])) (sym same) ((omega arith, omega arith), tt))
ordered_more from new_from (c ∷ d ∷ bs) ordered zero last b count is after new_after = absurd (omega arith)
ordered_more from new_from (c ∷ bs) ordered (suc n) last b count is after new_after =
    (ordered.0, ordered_more (suc c.end) (suc c.new_end) bs ordered.1 n last b (omega arith) is after new_after)

pub last_before : (from new_from : ℕ) (bs : List Body) (n : ℕ) (last b : Body) → suc n ≡ length bs → slice_get bs n ≡ Some last → AreOrdered from new_from (bs ++ b ∷ [])
    → (last.end < b.begin) × (last.new_end < b.new_begin)
last_before from new_from [] n last b count is ordered = absurd (omega arith)
last_before from new_from (c ∷ []) zero last b count is ordered =
    let same : c ≡ last = cc in
    subst (λ (e : Body). (e.end < b.begin) × (e.new_end < b.new_begin)) same ordered.1.0
last_before from new_from (c ∷ d ∷ bs) zero last b count is ordered = absurd (omega arith)
last_before from new_from (c ∷ bs) (suc n) last b count is ordered = last_before (suc c.end) (suc c.new_end) bs n last b (omega arith) is ordered.1
