-- Two places, in two lists, from which the machine does the same.
use Rattle.std.proofs.Common.{◌≡◌, ℕ, zero, suc, ◌≤◌, List, ◌∷◌, length, Bool, refl, ◌∙◌, arith}
use Rattle.wasm_body.specs.Control.{Control, Else, End, Delegate, Marked, with_control}
use Rattle.wasm_body.specs.SourceTree.{Sequence, Empty, Single, Wrapped, IfThen, IfElse, TryCatch, TryDelegate, Clauses, Ended, Catches, CatchesAll, text, clauses_text}
use Rattle.wasm_body.specs.Machine.{Outcome, TurnsOut, ends, Tags, seek, Label, From, branch, raise, caught_at, straight, bounded_run}

-- a bound on the operators of a turn, by the place where it begins: no less than their count
pub record Bound (A : Type 0) : Type 0 where
  pub of : List (Marked A) → ℕ
  pub suffices : (rest : List (Marked A)) → length rest ≤ of rest

-- the count itself, by which the machine runs
abbrev pub the_count : {A : Type 0} → Bound A
the_count = record { of = length; suffices = λ rest. omega arith }

-- how a run goes on after a turn, with this many turns left
abbrev pub again : {A : Type 0} → Bound A → (turns : ℕ) → From A
again bound zero = λ rest labels outcomes. ends TurnsOut
again bound (suc turns) = bounded_run bound.of turns

-- how it goes on within the turn, for at most this number of operators
abbrev pub go : {A : Type 0} → Bound A → (turns count : ℕ) → From A
go bound turns count = straight (again bound turns) count

pub bounded_run-go : {A : Type 0} → (bound : Bound A) (turns : ℕ) (rest : List (Marked A)) (labels : List (Label A)) (outcomes : List Outcome)
    → bounded_run bound.of turns rest labels outcomes ≡ go bound turns (bound.of rest) rest labels outcomes
bounded_run-go bound zero r ls o = refl
bounded_run-go bound (suc u) r ls o = refl

-- The machine does the same from two places, with at most t turns left, and whatever counts are enough; and from the first
-- with whatever bound.
abbrev pub Same : {A : Type 0} → (t : ℕ) → List (Marked A) → List (Label A) → List (Marked A) → List (Label A) → Type 0
Same {A = A} t r ls r' ls' = (β : Bound A) (u n m : ℕ) (outcomes : List Outcome) → u ≤ t → length r ≤ n → length r' ≤ m → go β u n r ls outcomes ≡ go the_count u m r' ls' outcomes

-- It does the same with all branches and exceptions that go outwards, if counts of b and b' operators are enough.
pub record SameOutside {A : Type 0} (t b b' : ℕ) (labels labels' : List (Label A)) : Type 0 where
  pub branches : (β : Bound A) (u n m j : ℕ) (outcomes : List Outcome) → u ≤ t → b ≤ n → b' ≤ m
      → branch (again β u) (go β u n) j labels outcomes ≡ branch (again the_count u) (go the_count u m) j labels' outcomes
  pub raises : (β : Bound A) (u n m : ℕ) (tags : Tags) (outcomes : List Outcome) (j : ℕ) → u ≤ t → b ≤ n → b' ≤ m
      → raise (again β u) (go β u n) tags labels outcomes j ≡ raise (again the_count u) (go the_count u m) tags labels' outcomes j
  pub handlers : (j : ℕ) → caught_at labels j ≡ caught_at labels' j

-- both conditions, for the places after a construct or an item
pub record Agree {A : Type 0} (t : ℕ) (r : List (Marked A)) (labels : List (Label A)) (r' : List (Marked A)) (labels' : List (Label A)) : Type 0 where
  pub outside : SameOutside t (length r) (length r') labels labels'
  pub same : Same t r labels r' labels'

-- a sequence is passed over by a search for parts and closers
mutual
  pub seek_text : {A : Type 0} → (s : Sequence A) (test : Control → Bool) (d i : ℕ) (k : List (Marked A))
      → seek test d i (text s k) ≡ seek test d i k
  seek_text Empty test d i k = refl
  seek_text (Single a action r) test d i k = seek_text r test d i k
  seek_text (Wrapped a w b e r) test d i k = seek_text b test (suc d) i (with_control e End ∷ text r k) ∙ seek_text r test d i k
  seek_text (IfThen a b e r) test d i k = seek_text b test (suc d) i (with_control e End ∷ text r k) ∙ seek_text r test d i k
  seek_text (IfElse a b l c e r) test d i k =
      seek_text b test (suc d) i (with_control l Else ∷ text c (with_control e End ∷ text r k))
      ∙ (seek_text c test (suc d) i (with_control e End ∷ text r k) ∙ seek_text r test d i k)
  seek_text (TryCatch a b cs r) test d i k =
      seek_text b test (suc d) i (clauses_text cs (text r k)) ∙ (seek_clauses cs test d i (text r k) ∙ seek_text r test d i k)
  seek_text (TryDelegate a b e n r) test d i k = seek_text b test (suc d) i (with_control e (Delegate n) ∷ text r k) ∙ seek_text r test d i k

  seek_clauses : {A : Type 0} → (cs : Clauses A) (test : Control → Bool) (d i : ℕ) (k : List (Marked A))
      → seek test (suc d) i (clauses_text cs k) ≡ seek test d i k
  seek_clauses (Ended e) test d i k = refl
  seek_clauses (Catches a t b cs) test d i k = seek_text b test (suc d) i (clauses_text cs k) ∙ seek_clauses cs test d i k
  seek_clauses (CatchesAll a b e) test d i k = seek_text b test (suc d) i (with_control e End ∷ k)

-- a sequence's text is no shorter than the operators that follow it
mutual
  pub text_longer : {A : Type 0} → (s : Sequence A) (k : List (Marked A)) → length k ≤ length (text s k)
  text_longer Empty k = omega arith
  text_longer (Single a action r) k = omega (arith, text_longer r k)
  text_longer (Wrapped a w b e r) k = omega (arith, text_longer b (with_control e End ∷ text r k), text_longer r k)
  text_longer (IfThen a b e r) k = omega (arith, text_longer b (with_control e End ∷ text r k), text_longer r k)
  text_longer (IfElse a b l c e r) k =
      omega (arith, text_longer b (with_control l Else ∷ text c (with_control e End ∷ text r k)), text_longer c (with_control e End ∷ text r k), text_longer r k)
  text_longer (TryCatch a b cs r) k = omega (arith, text_longer b (clauses_text cs (text r k)), clauses_longer cs (text r k), text_longer r k)
  text_longer (TryDelegate a b e n r) k = omega (arith, text_longer b (with_control e (Delegate n) ∷ text r k), text_longer r k)

  pub clauses_longer : {A : Type 0} → (cs : Clauses A) (k : List (Marked A)) → length k ≤ length (clauses_text cs k)
  clauses_longer (Ended e) k = omega arith
  clauses_longer (Catches a t b cs) k = omega (arith, text_longer b (clauses_text cs k), clauses_longer cs k)
  clauses_longer (CatchesAll a b e) k = omega (arith, text_longer b (with_control e End ∷ k))
