-- The new numbers of parts of functions, which are in order, and items with these.
use Rattle.std.proofs.Common.{◌≡◌, ℕ, zero, suc, ◌<◌, ◌≤◌, Bool, true, false, ◌&&◌, ◌||◌, eqb, ltb, if◌then◌else◌, List, [], ◌∷◌, length, get_or, None, refl, sym, ap, subst, ◌∙◌, ⊎_elim, inl, inr, arith}
use Rattle.std.proofs.lemmas.Bool.{cases_lt}
use Rattle.std.proofs.lemmas.Bool.Decides.{nat_tests}
use Rattle.std.proofs.lemmas.List.{get_or_default, get_or-map, length-map}
use Rattle.std.specs.List.Sorted.{IsNonDecreasingBy, IsPartitionedBy, IsPartitionPoint}
use denote.Ref.{Bor}
use Rattle.module_removal.specs.declared.followed.Part.{Part}
use Rattle.module_removal.specs.LeftParts.{new_number_in, IsAtMost, ArePartsInOrder, is_part_before, FunctionItem, items_numbered}

-- ---- whether a part comes before a number of a function, and whether it is that

abbrev is_before : (func old : ℕ) → (a c : ℕ) → Bool
is_before func old a c = ltb a func || (eqb a func && ltb c old)

abbrev is_same : (func old : ℕ) → (a c : ℕ) → Bool
is_same func old a c = eqb a func && eqb c old

before_differs : (func old a c : ℕ) → is_before func old a c ≡ true → is_same func old a c ≡ false
before_differs func old a c e = grind (arith, nat_tests)

before_less : (func old a c b d : ℕ) → a < b → is_before func old b d ≡ true → is_before func old a c ≡ true
before_less func old a c b d less e = grind (arith, nat_tests)

before_same : (func old a c d : ℕ) → c ≤ d → is_before func old a d ≡ true → is_before func old a c ≡ true
before_same func old a c d le e = grind (arith, nat_tests)

less_differs : (func old a c b d : ℕ) → a < b → is_before func old a c ≡ false → is_same func old b d ≡ false
less_differs func old a c b d less e = grind (arith, nat_tests)

at_most_differs : (func old a c d : ℕ) → c ≤ d → is_before func old a c ≡ false → is_same func old a c ≡ false → is_same func old a d ≡ false
at_most_differs func old a c d le e n = grind (arith, nat_tests)

-- ---- the search among parts in order

abbrev pub part_same : (func old : ℕ) → Part → Bool
part_same func old p = is_same func old p.func p.old

at_most_before : (func old : ℕ) (p q : Part) → IsAtMost p q → is_part_before func old q ≡ true → is_part_before func old p ≡ true
at_most_before func old p q (inl less) e = before_less func old p.func p.old q.func q.old less e
at_most_before func old p q (inr (same, le)) e =
    before_same func old p.func p.old q.old le (ap (λ (n : ℕ). is_before func old n q.old) same ∙ e)

after_differs : (func old : ℕ) (p q : Part) → IsAtMost p q → is_part_before func old p ≡ false → part_same func old p ≡ false → part_same func old q ≡ false
after_differs func old p q (inl less) e n = less_differs func old p.func p.old q.func q.old less e
after_differs func old p q (inr (same, le)) e n =
    ap (λ (m : ℕ). is_same func old m q.old) (sym same) ∙ at_most_differs func old p.func p.old q.old le e n

pub parts_partitioned : (parts : List Part) → ArePartsInOrder parts → (func old : ℕ) → IsPartitionedBy (is_part_before func old) parts
parts_partitioned parts order func old i j d le less e = at_most_before func old (get_or parts i d) (get_or parts j d) (order i j d le less) e

found_at :
    (func old : ℕ) (parts : List Part) (k : ℕ) (p : Part) → k < length parts → ((j : ℕ) (d : Part) → j < k → part_same func old (get_or parts j d) ≡ false) →
    p ≡ get_or parts k p → part_same func old p ≡ true → new_number_in parts func old ≡ p.new
found_at func old [] k p less front at is = absurd (omega arith)
found_at func old (q ∷ qs) zero p less front at is =
    subst (λ (r : Part). (if part_same func old r then r.new else new_number_in qs func old) ≡ p.new) at
    (ap (λ (b : Bool). if b then p.new else new_number_in qs func old) is)
found_at func old (q ∷ qs) (suc k) p less front at is =
    ap (λ (b : Bool). if b then q.new else new_number_in qs func old) (front 0 q (omega arith))
    ∙ found_at func old qs k p (omega arith) (λ j d l. front (suc j) d (omega arith)) at is

none_found :
    (func old : ℕ) (parts : List Part) → ((j : ℕ) (d : Part) → j < length parts → part_same func old (get_or parts j d) ≡ false) →
    new_number_in parts func old ≡ None
none_found func old [] all = refl
none_found func old (q ∷ qs) all =
    ap (λ (b : Bool). if b then q.new else new_number_in qs func old) (all 0 q (omega arith)) ∙ none_found func old qs (λ j d l. all (suc j) d (omega arith))

module _ (parts : List Part) (order : ArePartsInOrder parts) (func old i : ℕ)
    (split : IsPartitionPoint (λ p. is_part_before func old p ≡ true) (λ p. is_part_before func old p ≡ false) parts i) where
  front_differs : (j : ℕ) (d : Part) → j < i → part_same func old (get_or parts j d) ≡ false
  front_differs j d less =
      before_differs func old (get_or parts j d).func (get_or parts j d).old (split.0 j d (omega arith) less)

  pub number_found : (p : Part) → i < length parts → p ≡ get_or parts i p → p.func ≡ func → p.old ≡ old → p.new ≡ new_number_in parts func old
  number_found p less at f o =
      let is : part_same func old p ≡ true = grind (arith, nat_tests) in
      sym (found_at func old parts i p less front_differs at is)

  pub no_number_at : (p : Part) → i < length parts → p ≡ get_or parts i p → part_same func old p ≡ false → None ≡ new_number_in parts func old
  no_number_at p less at n =
      sym (none_found func old parts
      (λ j d l.
      ⊎_elim (λ before. front_differs j d before)
      (λ from.
      after_differs func old (get_or parts i d) (get_or parts j d) (order i j d from l) (split.1 i d (omega arith) less)
      (ap (part_same func old) (get_or_default parts i d p less ∙ sym at) ∙ n)) (cases_lt j i)))

  pub no_number_past : length parts ≤ i → None ≡ new_number_in parts func old
  no_number_past past = sym (none_found func old parts (λ j d l. front_differs j d (omega arith)))

-- ---- items of a function

abbrev bytes_numbered : ℕ × Bor (List ℕ) → FunctionItem
bytes_numbered x = (x.0, x.1.now)

-- an element of a list that isn't empty
some_item : {X : Type 0} (xs : List X) (j : ℕ) → j < length xs → X
some_item [] j less = absurd (omega arith)
some_item (x ∷ xs) j less = x

pub rises_as : (xs : List (ℕ × Bor (List ℕ))) → IsNonDecreasingBy (λ (x : ℕ × Bor (List ℕ)). x.0) xs → IsNonDecreasingBy (λ (x : FunctionItem). x.0) (items_numbered xs)
rises_as xs rises i j d le less =
    let short : j < length xs = omega (arith, length-map xs bytes_numbered) in
    let e = some_item xs j short in
    let first = get_or-map bytes_numbered xs i e d (omega arith) in
    let second = get_or-map bytes_numbered xs j e d short in
    subst (λ (x : FunctionItem). x.0 ≤ (get_or (items_numbered xs) j d).0) (sym first)
    (subst (λ (y : FunctionItem). (get_or xs i e).0 ≤ y.0) (sym second) (rises i j e le short))
