-- The first operator that still exists, at a place or after it.
use Rattle.std.proofs.Common.{◌≡◌, ℕ, zero, suc, ◌<◌, ◌≤◌, Bool, true, false, ltb, List, [], ◌∷◌, ◌++◌, length, get_or, Option, Some, None, refl, sym, ap, ◌∙◌, append_assoc, arith}
use Rattle.std.specs.List.{AllWithin}
use Rattle.std.proofs.lemmas.Bool.{lt-ltb, le-ltb}
use Rattle.source_map.specs.declared.mapping.Mapping.{Mapping}
use Rattle.source_map.specs.declared.moving.Move.{Move}
use Rattle.source_map.specs.Moving.{first_kept, in_body, moved_to, with_place, moved_all}

abbrev pub Before : (place : ℕ) → Bool → Move → Type 0
Before place b m = ltb m.old place ≡ b

pub kept_at : (moves : List Move) (place at : ℕ) (m : Move) → AllWithin (Before place true) moves 0 at → AllWithin (Before place false) moves at (length moves) → at < length moves → m ≡ get_or moves at m
    → first_kept moves place ≡ Some m
kept_at [] place at m p q lt is = absurd (omega arith)
kept_at (x ∷ xs) place zero m p q lt is = rw (q 0 m (omega arith) (omega arith)) (ap (λ (y : Move). Some y) (sym is))
kept_at (x ∷ xs) place (suc at) m p q lt is =
    rw (p 0 m (omega arith) (omega arith)) (kept_at xs place at m (λ k d low high. p (suc k) d (omega arith) (omega arith)) (λ k d low high. q (suc k) d (omega arith) (omega arith)) (omega arith) is)

pub none_kept : (moves : List Move) (place at : ℕ) → AllWithin (Before place true) moves 0 at → length moves ≤ at → first_kept moves place ≡ None
none_kept [] place at p le = refl
none_kept (x ∷ xs) place zero p le = absurd (omega arith)
none_kept (x ∷ xs) place (suc at) p le =
    rw (p 0 x (omega arith) (omega arith)) (none_kept xs place at (λ k d low high. p (suc k) d (omega arith) (omega arith)) (omega arith))

pub in_its_body : (place : ℕ) (m : Move) → m.body ≤ place → in_body place (Some m) ≡ Some m.new
in_its_body place m le = rw (le-ltb place m.body le) refl

pub in_other_body : (place : ℕ) (m : Move) → place < m.body → in_body place (Some m) ≡ None
in_other_body place m lt = rw (lt-ltb place m.body lt) refl

-- ---- a loop over mappings

pub one_moved : (out : List Mapping) (moves : List Move) (m : Mapping) (new : ℕ) (ms : List Mapping) → Some new ≡ moved_to moves m.generated
    → (out ++ (record m { generated = new }) ∷ []) ++ moved_all moves ms ≡ out ++ moved_all moves (m ∷ ms)
one_moved out moves m new ms e = append_assoc out ((record m { generated = new }) ∷ []) (moved_all moves ms) ∙ ap (λ (o : Option ℕ). out ++ with_place m o (moved_all moves ms)) e

pub one_gone : (moves : List Move) (m : Mapping) (ms : List Mapping) → None ≡ moved_to moves m.generated → moved_all moves ms ≡ moved_all moves (m ∷ ms)
one_gone moves m ms e = ap (λ (o : Option ℕ). with_place m o (moved_all moves ms)) e
