-- No two abbreviations have one code.
use Rattle.std.proofs.Common.{◌≡◌, ℕ, suc, ◌+◌, ◌<◌, ◌≤◌, Bool, true, false, cond, eqb, ltb, ◌||◌, List, [], ◌∷◌, length, map, drop, get_or, Option, Some, None, refl, sym, ap, subst, ◌∙◌, arith}
use Rattle.std.specs.List.{list_any}
use Rattle.std.specs.List.Sorted.{IsNonDecreasingBy}
use Rattle.std.proofs.lemmas.Bool.{ltb-true, eqb-false, eqb-true, eq-eqb, ne_eqb}
use Rattle.std.proofs.lemmas.List.{drop_more, drop_all}
use Rattle.dwarf_info.specs.Sound.{Ascend}
use Rattle.dwarf.specs.declared.index_abbreviations.IndexAbbreviation.{IndexAbbreviation}
use Rattle.dwarf.specs.declared.index_abbreviations.IndexAttribute.{IndexAttribute}
use Rattle.dwarf.specs.IndexEntries.{repeats, codes_of, repeats_number}
use Rattle.dwarf.specs.IndexInMemory.{index_declaration_of}
use Rattle.dwarf_bytes.specs.Sorting.{inserted_by, sorted_by}
use Rattle.dwarf_bytes.proofs.SortingLemmas.{RiseFrom, rises_from, sorted_mapped}

or_swap : (a b c : Bool) → (a || (b || c)) ≡ (b || (a || c))
or_swap true true c = refl
or_swap true false c = refl
or_swap false true c = refl
or_swap false false c = refl

or_false : (a b : Bool) → (a || b) ≡ false → (a ≡ false) × (b ≡ false)
or_false true b e = absurd cc
or_false false b e = (refl, e)

-- ---- the order doesn't matter

abbrev same : ℕ → ℕ
same n = n

any_inserted : (p : ℕ → Bool) (n : ℕ) (ns : List ℕ) → list_any p (inserted_by same n ns) ≡ list_any p (n ∷ ns)
unfolding inserted_by
any_inserted p n [] = refl
any_inserted p n (m ∷ ms) =
    elim (ltb m n) as (λ b. list_any p (cond b (m ∷ inserted_by same n ms) (n ∷ m ∷ ms)) ≡ list_any p (n ∷ m ∷ ms)) [
      | true ↦ ap (λ (b : Bool). p m || b) (any_inserted p n ms) ∙ or_swap (p m) (p n) (list_any p ms)
      | false ↦ refl
    ]

any_sorted : (p : ℕ → Bool) (ns : List ℕ) → list_any p (sorted_by same ns) ≡ list_any p ns
unfolding sorted_by
any_sorted p [] = refl
any_sorted p (n ∷ ns) = any_inserted p n (sorted_by same ns) ∙ ap (λ (b : Bool). p n || b) (any_sorted p ns)

repeats_inserted : (n : ℕ) (ns : List ℕ) → repeats (inserted_by same n ns) ≡ repeats (n ∷ ns)
unfolding inserted_by
repeats_inserted n [] = refl
repeats_inserted n (m ∷ ms) =
    elim (ltb m n) as (λ b. ltb m n ≡ b → repeats (cond b (m ∷ inserted_by same n ms) (n ∷ m ∷ ms)) ≡ repeats (n ∷ m ∷ ms)) [
      | true ↦ λ e.
          let less = ltb-true m n e in
          let a = list_any (λ k. eqb k m) ms in
          let b = list_any (λ k. eqb k n) ms in
          let others : list_any (λ k. eqb k m) (inserted_by same n ms) ≡ a = any_inserted (λ k. eqb k m) n ms ∙ rw (ne_eqb n m (λ q. omega arith)) refl in
          let left : repeats (m ∷ inserted_by same n ms) ≡ (a || (b || repeats ms)) = ap (λ (x : Bool). x || repeats (inserted_by same n ms)) others ∙ ap (λ (x : Bool). a || x) (repeats_inserted n ms) in
          let right : repeats (n ∷ m ∷ ms) ≡ (b || (a || repeats ms)) = rw (ne_eqb m n (λ q. omega arith)) refl in
          left ∙ or_swap a b (repeats ms) ∙ sym right
      | false ↦ λ e. refl
    ] refl

repeats_sorted : (ns : List ℕ) → repeats (sorted_by same ns) ≡ repeats ns
unfolding sorted_by
repeats_sorted [] = refl
repeats_sorted (n ∷ ns) =
    repeats_inserted n (sorted_by same ns)
    ∙ ap (λ (b : Bool). b || repeats (sorted_by same ns)) (any_sorted (λ k. eqb k n) ns)
    ∙ ap (λ (b : Bool). list_any (λ k. eqb k n) ns || b) (repeats_sorted ns)

abbrev pub code : IndexAbbreviation → ℕ
code a = a.code

pub codes_sorted : (xs : List IndexAbbreviation) → repeats (map code (sorted_by code xs)) ≡ repeats (map code xs)
codes_sorted xs = ap repeats (sorted_mapped code same code (λ a. refl) xs) ∙ repeats_sorted (map code xs)

pub codes_declared : (attributes : List IndexAttribute) (xs : List IndexAbbreviation) → codes_of (map (index_declaration_of attributes) xs) ≡ map code xs
codes_declared attributes [] = refl
codes_declared attributes (x ∷ xs) = ap (λ (l : List ℕ). x.code ∷ l) (codes_declared attributes xs)

-- ---- of sorted ones neighbours differ

any_below : (k from : ℕ) (xs : List IndexAbbreviation) → RiseFrom code from xs → k < from → list_any (λ n. eqb n k) (map code xs) ≡ false
any_below k from [] up less = refl
any_below k from (x ∷ xs) up less =
    let first = up.0 in
    rw (ne_eqb x.code k (λ q. omega arith)) (any_below k x.code xs up.1 (omega arith))

higher : (k : ℕ) (xs : List IndexAbbreviation) → RiseFrom code k xs → list_any (λ n. eqb n k) (map code xs) ≡ false → RiseFrom code (suc k) xs
higher k [] up none = tt
higher k (x ∷ xs) up none =
    let first = up.0 in
    let other = eqb-false x.code k (or_false (eqb x.code k) (list_any (λ n. eqb n k) (map code xs)) none).0 in
    (omega (arith, other), up.1)

ascends_from : (low : ℕ) (xs : List IndexAbbreviation) → RiseFrom code low xs → repeats (map code xs) ≡ false → Ascend code low xs
ascends_from low [] up none = tt
ascends_from low (x ∷ xs) up none =
    let both = or_false (list_any (λ n. eqb n x.code) (map code xs)) (repeats (map code xs)) none in
    (up.0, ascends_from (suc x.code) xs (higher x.code xs up.1 both.0) both.1)

pub ascends : (xs : List IndexAbbreviation) → IsNonDecreasingBy code xs → repeats (map code xs) ≡ false → Ascend code 0 xs
ascends xs up none = ascends_from 0 xs (rises_from code 0 xs up (λ d some. omega arith)) none

abbrev with_before : Option ℕ → List ℕ → List ℕ
with_before None ns = ns
with_before (Some m) ns = m ∷ ns

abbrev low_of : Option ℕ → ℕ
low_of None = 0
low_of (Some m) = m

-- From this place on, whether codes repeat is what it is of all.
pub record CodesSoFar (xs : List IndexAbbreviation) (i : ℕ) (before : Option ℕ) : Type 0 where
  pub same : repeats (map code xs) ≡ repeats (with_before before (map code (drop i xs)))
  pub rises : RiseFrom code (low_of before) (drop i xs)

pub codes_none : (xs : List IndexAbbreviation) → IsNonDecreasingBy code xs → CodesSoFar xs 0 None
codes_none xs up = record { same = refl; rises = rises_from code 0 xs up (λ d some. omega arith) }

-- the next one
repeated_here : (before : Option ℕ) (x : IndexAbbreviation) (xs : List IndexAbbreviation) → repeats_number before x.code ≡ true → repeats (with_before before (map code (x ∷ xs))) ≡ true
repeated_here None x xs e = absurd cc
repeated_here (Some m) x xs e = rw (eq-eqb x.code m (sym (eqb-true m x.code e))) refl

not_here : (before : Option ℕ) (x : IndexAbbreviation) (xs : List IndexAbbreviation) → repeats_number before x.code ≡ false → RiseFrom code (low_of before) (x ∷ xs)
    → repeats (with_before before (map code (x ∷ xs))) ≡ repeats (x.code ∷ map code xs)
not_here None x xs e up = refl
not_here (Some m) x xs e up =
    let other = eqb-false m x.code e in
    let first = up.0 in
    let none : list_any (λ n. eqb n m) (map code (x ∷ xs)) ≡ false = any_below m x.code (x ∷ xs) (omega arith, up.1) (omega (arith, other)) in
    rw none refl

module _ (xs : List IndexAbbreviation) (i : ℕ) (before : Option ℕ) (so : CodesSoFar xs i before) where
  pub codes_end : length xs ≤ i → repeats (map code xs) ≡ false
  codes_end few = so.same ∙ ap (λ (l : List IndexAbbreviation). repeats (with_before before (map code l))) (drop_all i xs few) ∙ none before
    where
      none : (before : Option ℕ) → repeats (with_before before []) ≡ false
      none None = refl
      none (Some m) = refl

  module _ (d : IndexAbbreviation) (within : i < length xs) where
    pub codes_repeat : repeats_number before (get_or xs i d).code ≡ true → repeats (map code xs) ≡ true
    codes_repeat e = so.same ∙ ap (λ (l : List IndexAbbreviation). repeats (with_before before (map code l))) (drop_more xs i d within) ∙ repeated_here before (get_or xs i d) (drop (i + 1) xs) e

    pub codes_more : repeats_number before (get_or xs i d).code ≡ false → CodesSoFar xs (i + 1) (Some (get_or xs i d).code)
    codes_more e =
        let x = get_or xs i d in
        let rest = drop (i + 1) xs in
        let up : RiseFrom code (low_of before) (x ∷ rest) = subst (λ (l : List IndexAbbreviation). RiseFrom code (low_of before) l) (drop_more xs i d within) so.rises in
        record {
          same = so.same ∙ ap (λ (l : List IndexAbbreviation). repeats (with_before before (map code l))) (drop_more xs i d within) ∙ not_here before x rest e up;
          rises = up.1;
        }
