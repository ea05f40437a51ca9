-- The numbers of ids, in a table by id and in a map: what is found, how many there are, and one more.
use Rattle.std.proofs.Common.{◌≡◌, ℕ, zero, suc, ◌+◌, ◌<◌, ◌≤◌, ◌==◌, List, [], ◌∷◌, ◌++◌, length, Bool, true, false, cond, Option, Some, None, is_some, slice_get, refl, sym, ap, ◌∙◌, inl, inr, length-append, arith}
use Rattle.std.specs.Prelude.{slice_set}
use Rattle.std.specs.Option.{option_or}
use Rattle.std.specs.Ordering.{nat_cmp}
use Rattle.std.specs.Cmp.{nat_cmp_total, unsigned_tied}
use Rattle.std.specs.FinMap.{FinMap, get, insert, len, get-insert, len-insert, same_map, nat_cmp-IsAntisymmetric}
use Rattle.std.proofs.lemmas.Bool.{eq-eqb, ne_eqb, eqb-true, cases_eq}
use Rattle.std.proofs.Math.Dec.{eqb-suc-suc}
use Rattle.std.proofs.lemmas.Option.{slice_get_past}
use Rattle.walrus_maps.specs.IdTables.{with_table, IsOfOthers}

-- ---- what is found

abbrev Numbers : Type 0
Numbers = FinMap nat_cmp ℕ

-- one more entry, in terms of numbers
get-one : (m : Numbers) (k v q : ℕ) → get (insert m k v) q ≡ cond (q == k) (Some v) (get m q)
get-one m k v q = get-insert nat_cmp_total m k v q ∙ ap (λ b. cond b (Some v) (get m q)) (unsigned_tied q k)

get-here : (m : Numbers) (k v q : ℕ) → q ≡ k → get (insert m k v) q ≡ Some v
get-here m k v q e = get-one m k v q ∙ ap (λ b. cond b (Some v) (get m q)) (eq-eqb q k e)

get-other : (m : Numbers) (k v q : ℕ) → (q ≡ k → ⊥) → get (insert m k v) q ≡ get m q
get-other m k v q other = get-one m k v q ∙ ap (λ b. cond b (Some v) (get m q)) (ne_eqb q k other)

get-before : (first : ℕ) (ns : List ℕ) (m : Numbers) (q : ℕ) → q < first → get (with_table first ns m) q ≡ get m q
get-before first [] m q before = refl
get-before first (n ∷ ns) m q before =
    get-other (with_table (suc first) ns m) first n q (λ same. omega (arith, before, same))
    ∙ get-before (suc first) ns m q (omega (arith, before))

get-from : (first : ℕ) (ns : List ℕ) (m : Numbers) (i q : ℕ) → q ≡ first + i → get (with_table first ns m) q ≡ option_or (slice_get ns i) (get m q)
get-from first [] m i q e = refl
get-from first (n ∷ ns) m zero q e = get-here (with_table (suc first) ns m) first n q (omega (arith, e))
get-from first (n ∷ ns) m (suc i) q e =
    get-other (with_table (suc first) ns m) first n q (λ same. omega (arith, e, same))
    ∙ get-from (suc first) ns m i q (omega (arith, e))

pub get-table : (ns : List ℕ) (m : Numbers) (q : ℕ) → get (with_table 0 ns m) q ≡ option_or (slice_get ns q) (get m q)
get-table ns m q = get-from 0 ns m q q (omega arith)

-- ---- how many there are

len-from : (first : ℕ) (ns : List ℕ) (m : Numbers) → ((q : ℕ) → first ≤ q → q < first + length ns → get m q ≡ None)
    → len (with_table first ns m) ≡ length ns + len m
len-from first [] m none = omega arith
len-from first (n ∷ ns) m none =
    let rest = with_table (suc first) ns m in
    let new : get rest first ≡ None = get-before (suc first) ns m first (omega arith) ∙ none first (omega arith) (omega arith) in
    let others = len-from (suc first) ns m (λ q low high. none q (omega (arith, low)) (omega (arith, high))) in
    len-insert nat_cmp_total rest first n
    ∙ ap (λ (o : Option ℕ). cond (is_some o) (len rest) (len rest + 1)) new
    ∙ omega (arith, others)

pub len-table : (ns : List ℕ) (m : Numbers) → IsOfOthers ns m → len (with_table 0 ns m) ≡ length ns + len m
len-table ns m none = len-from 0 ns m (λ q low high. none q (omega (arith, high)))

-- ---- one more, or another

-- maps that differ only at one id
abbrev Puts : List ℕ → Numbers → (k v : ℕ) → List ℕ → Numbers → Type 0
Puts old m k v new n = (q : ℕ) → option_or (slice_get new q) (get n q) ≡ cond (q == k) (Some v) (option_or (slice_get old q) (get m q))

put-table : (old new : List ℕ) (m n : Numbers) (k v : ℕ) → Puts old m k v new n → with_table 0 new n ≡ insert (with_table 0 old m) k v
put-table old new m n k v puts = same_map nat_cmp_total nat_cmp-IsAntisymmetric _ _ (λ q.
    get-table new n q ∙ puts q
    ∙ ap (cond (q == k) (Some v)) (sym (get-table old m q))
    ∙ sym (get-one (with_table 0 old m) k v q))

slice_get-set : (xs : List ℕ) (k v q : ℕ) → k < length xs → slice_get (slice_set xs k v) q ≡ cond (q == k) (Some v) (slice_get xs q)
slice_get-set [] k v q within = absurd (omega (arith, within))
slice_get-set (x ∷ xs) zero v zero within = refl
slice_get-set (x ∷ xs) zero v (suc q) within = ap (λ b. cond b (Some v) (slice_get xs q)) (sym (ne_eqb (suc q) zero (λ same. omega (arith, same))))
slice_get-set (x ∷ xs) (suc k) v zero within = ap (λ b. cond b (Some v) (Some x)) (sym (ne_eqb zero (suc k) (λ same. omega (arith, same))))
slice_get-set (x ∷ xs) (suc k) v (suc q) within =
    slice_get-set xs k v q (omega (arith, within)) ∙ ap (λ b. cond b (Some v) (slice_get xs q)) (sym (eqb-suc-suc q k))

slice_get-push : (xs : List ℕ) (v q : ℕ) → slice_get (xs ++ v ∷ []) q ≡ cond (q == length xs) (Some v) (slice_get xs q)
slice_get-push [] v zero = refl
slice_get-push [] v (suc q) = ap (λ b. cond b (Some v) None) (sym (ne_eqb (suc q) zero (λ same. omega (arith, same))))
slice_get-push (x ∷ xs) v zero = ap (λ b. cond b (Some v) (Some x)) (sym (ne_eqb zero (suc (length xs)) (λ same. omega (arith, same))))
slice_get-push (x ∷ xs) v (suc q) =
    slice_get-push xs v q ∙ ap (λ b. cond b (Some v) (slice_get xs q)) (sym (eqb-suc-suc q (length xs)))

or_other : (b : Bool) (v : ℕ) (o p : Option ℕ) → option_or (cond b (Some v) o) p ≡ cond b (Some v) (option_or o p)
or_other true v o p = refl
or_other false v o p = refl

-- the number of an id of the table is replaced
pub table_set : (xs : List ℕ) (m : Numbers) (k v : ℕ) → k < length xs → with_table 0 (slice_set xs k v) m ≡ insert (with_table 0 xs m) k v
table_set xs m k v within = put-table xs (slice_set xs k v) m m k v (λ q.
    ap (λ o. option_or o (get m q)) (slice_get-set xs k v q within) ∙ or_other (q == k) v (slice_get xs q) (get m q))

-- the next id of the table has a number
pub table_push : (xs : List ℕ) (m : Numbers) (k v : ℕ) → k ≡ length xs → with_table 0 (xs ++ v ∷ []) m ≡ insert (with_table 0 xs m) k v
table_push xs m k v next = put-table xs (xs ++ v ∷ []) m m k v (λ q.
    ap (λ o. option_or o (get m q)) (slice_get-push xs v q ∙ ap (λ n. cond (q == n) (Some v) (slice_get xs q)) (sym next))
    ∙ or_other (q == k) v (slice_get xs q) (get m q))

-- another id has a number
others_put : (xs : List ℕ) (m : Numbers) (k v q : ℕ) → length xs ≤ k → (b : Bool) → (q == k) ≡ b
    → option_or (slice_get xs q) (cond b (Some v) (get m q)) ≡ cond b (Some v) (option_or (slice_get xs q) (get m q))
others_put xs m k v q past true same =
    ap (λ (o : Option ℕ). option_or o (Some v)) (slice_get_past xs q (omega (arith, past, eqb-true q k same)))
others_put xs m k v q past false other = refl

pub table_insert : (xs : List ℕ) (m : Numbers) (k v : ℕ) → length xs ≤ k → with_table 0 xs (insert m k v) ≡ insert (with_table 0 xs m) k v
table_insert xs m k v past = put-table xs xs m (insert m k v) k v (λ q.
    ap (option_or (slice_get xs q)) (get-one m k v q) ∙ others_put xs m k v q past (q == k) refl)

-- ---- the map has no number for an id of the table

pub others_push : (xs : List ℕ) (m : Numbers) (v : ℕ) → IsOfOthers xs m → get m (length xs) ≡ None → IsOfOthers (xs ++ v ∷ []) m
others_push xs m v none next id within = elim (cases_eq id (length xs)) [
  | inl same ↦ ap (get m) same ∙ next
  | inr other ↦ none id (omega (arith, length-append xs (v ∷ []), within, other))
]

pub others_insert : (xs : List ℕ) (m : Numbers) (k v : ℕ) → IsOfOthers xs m → length xs ≤ k → IsOfOthers xs (insert m k v)
others_insert xs m k v none past id within = get-other m k v id (λ same. omega (arith, within, past, same)) ∙ none id within
