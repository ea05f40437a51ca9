-- Clauses that compare as equal are the same.
use Rattle.std.proofs.Common.{◌≡◌, ℕ, List, [], ◌∷◌, Bool, true, false, Option, Some, None, refl, ap}
use Rattle.std.proofs.lemmas.Bool.{eqb-true}
use Rattle.std.specs.Prelude.{nat_eq, ◌&&◌}
use Rattle.std.specs.Bool.{beq}
use Rattle.std.specs.Option.{option_eq}
use Rattle.std.specs.Cmp.Lexicographic.{pointwise}
use Rattle.wasm_operators.specs.Operations.{CatchClause}
use Rattle.wasm_operators.specs.Lists.{clause_eq, clauses_equiv}

pub both : (s t : Bool) → (s && t) ≡ true → (s ≡ true) × (t ≡ true)
both true t h = (refl, h)
both false t h = absurd cc

same_truth : (a b : Bool) → beq a b ≡ true → a ≡ b
same_truth true true h = refl
same_truth true false h = absurd cc
same_truth false true h = absurd cc
same_truth false false h = refl

same_tag : (a b : Option ℕ) → option_eq nat_eq a b ≡ true → a ≡ b
same_tag None None h = refl
same_tag None (Some n) h = absurd cc
same_tag (Some m) None h = absurd cc
same_tag (Some m) (Some n) h = ap (λ (k : ℕ). Some k) (eqb-true m n h)

same_clause : (a b : CatchClause ℕ) → clause_eq a b ≡ true → a ≡ b
same_clause a b h =
    let p = both (beq a.by_reference b.by_reference) (option_eq nat_eq a.tag b.tag && nat_eq a.label b.label) h in
    let q = both (option_eq nat_eq a.tag b.tag) (nat_eq a.label b.label) p.1 in
    let reference = same_truth a.by_reference b.by_reference p.0 in
    let tag = same_tag a.tag b.tag q.0 in
    let label = eqb-true a.label b.label q.1 in
    λ i. record { by_reference = reference i; tag = tag i; label = label i }

pub same_clauses : (cs ds : List (CatchClause ℕ)) → pointwise clause_eq cs ds ≡ true → cs ≡ ds
same_clauses [] [] h = refl
same_clauses [] (d ∷ ds) h = absurd cc
same_clauses (c ∷ cs) [] h = absurd cc
same_clauses (c ∷ cs) (d ∷ ds) h =
    let p = both (clause_eq c d) (pointwise clause_eq cs ds) h in
    let first = same_clause c d p.0 in
    let others = same_clauses cs ds p.1 in
    λ i. first i ∷ others i

pub clauses_themselves : (cs : List (CatchClause ℕ)) → pointwise clause_eq cs cs ≡ true
clauses_themselves cs = clauses_equiv.refl cs

pub ruleset same_lists = (same_clauses, clauses_themselves)
