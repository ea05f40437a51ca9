-- What is reached is left.
use Rattle.std.proofs.Common.{◌≡◌, ℕ, zero, suc, ◌+◌, ◌-◌, ◌<◌, ◌^◌, min, Bool, true, false, cond, nat_lt, List, [], ◌∷◌, map, take, get_or, Option, Some, None, refl, sym, ap, subst, ◌∙◌, arith}
use Rattle.std.proofs.lemmas.Bool.{ltb-true}
use Rattle.std.proofs.lemmas.List.Elements.{Contains-append_right}
use Rattle.std.specs.List.{Contains}
use Rattle.item_sets.specs.ItemsLeft.{is_left, left_count}
use Rattle.reaching.specs.Reaching.{IsReachedFrom}
use Rattle.reaching.specs.Searching.{is_set}
use Rattle.module_removal.specs.declared.item.Item.{Item}
use Rattle.module_removal.specs.declared.item.ItemCounts.{ItemCounts}
use Rattle.module_removal.specs.declared.left.LeftItems.{LeftItems}
use Rattle.module_removal.specs.ItemNumbers.{count_of, first_number, all_numbers, number_if, number_of_item}
use Rattle.module_removal.specs.LeftSpaces.{marks_of, index_of, AreMarked}
use Rattle.module_removal.specs.Edges.{edges_from}
use Rattle.module_removal.specs.LeftLaws.{ReferencesAreLeft}
use Rattle.module_removal.proofs.EdgeLemmas.{number_within}

-- the first of two lists and all others
heads_same : (o p : Option ℕ) (os ps : List (Option ℕ)) → o ∷ os ≡ p ∷ ps → (o ≡ p) × (os ≡ ps)
heads_same o p os ps e = (ap (λ (l : List (Option ℕ)). get_or l 0 o) e, ap (λ (l : List (Option ℕ)). tail_of l) e)
  where
    tail_of : List (Option ℕ) → List (Option ℕ)
    tail_of [] = []
    tail_of (x ∷ xs) = xs

-- an item of a list has a number in the list of the numbers
number_in :
    (c : ItemCounts) (items : List Item) (numbers : List ℕ) (item : Item) → map (number_of_item c) items ≡ map Some numbers → Contains items item →
    (n : ℕ) × (number_of_item c item ≡ Some n) × Contains numbers n
number_in c [] numbers item e has = absurd (omega (arith, has.1))
number_in c (x ∷ xs) [] item e has = absurd cc
number_in c (x ∷ xs) (m ∷ ms) item e (zero, lt, is) =
    let same = heads_same (number_of_item c x) (Some m) (map (number_of_item c) xs) (map Some ms) e in
    (m, ap (number_of_item c) (sym is) ∙ same.0, (zero, omega arith, refl))
number_in c (x ∷ xs) (m ∷ ms) item e (suc k, lt, is) =
    let same = heads_same (number_of_item c x) (Some m) (map (number_of_item c) xs) (map Some ms) e in
    let rest = number_in c xs ms item same.1 (k, omega arith, is) in
    let has = rest.2 in
    (rest.0, rest.1, (suc has.0, omega (arith, has.1), has.2))

edge_in : (from n : ℕ) (numbers : List ℕ) → Contains numbers n → Contains (edges_from from numbers) (from, n)
edge_in from n [] has = absurd (omega (arith, has.1))
edge_in from n (m ∷ ms) (zero, lt, is) = (zero, omega arith, ap (λ (k : ℕ). (let e : ℕ × ℕ = (from, k) in e)) is)
edge_in from n (m ∷ ms) (suc k, lt, is) = let rest = edge_in from n ms (k, omega arith, is) in (suc rest.0, omega (arith, rest.1), rest.2)

-- what a number says of its item
pub number_parts :
    (is_item fits : Bool) (m n : ℕ) → number_if is_item fits m ≡ Some n → (is_item ≡ true) × (fits ≡ true) × (m ≡ n)
number_parts true true m n e = (refl, refl, cc)
number_parts true false m n e = absurd cc
number_parts false fits m n e = absurd cc

-- an item whose number has a mark that is set is left
left_if_set :
    (c : ItemCounts) (marks : List Bool) (left : LeftItems) (item : Item) (n : ℕ) → AreMarked c marks left → number_of_item c item ≡ Some n →
    is_set marks n ≡ true → (i : ℕ) × (index_of left item ≡ Some i)
left_if_set c marks left item n are e set =
    let parts = number_parts (nat_lt item.index (count_of c item.space)) (nat_lt (first_number c item.space + item.index) (2 ^ 32))
    (first_number c item.space + item.index) n e in
    let own = marks_of left item.space in
    let is : is_left own item.index ≡ true =
    (are item.space).each item.index (ltb-true item.index (count_of c item.space) parts.0) ∙ ap (is_left marks) parts.2 ∙ set in
    (left_count (take item.index own), ap (λ (b : Bool). cond b (Some (left_count (take item.index own))) None) is)

small_number : (c : ItemCounts) (item : Item) (n : ℕ) → number_of_item c item ≡ Some n → n < min (all_numbers c) (2 ^ 64 - 1)
small_number c item n e =
    let parts = number_parts (nat_lt item.index (count_of c item.space)) (nat_lt (first_number c item.space + item.index) (2 ^ 32))
    (first_number c item.space + item.index) n e in
    omega (arith, number_within c item n e, ltb-true (first_number c item.space + item.index) (2 ^ 32) parts.1, parts.2)

pub references_left : ReferencesAreLeft
references_left c edges roots marks left reached are from items before after refers among set item has =
    let number = number_in c items refers.numbers item refers.are has in
    let edge : Contains after (from, number.0) =
    subst (λ (l : List (ℕ × ℕ)). Contains l (from, number.0)) (sym refers.edges)
    (Contains-append_right before (edges_from from refers.numbers) (from, number.0) (edge_in from number.0 refers.numbers number.2)) in
    let walk = (reached from).0 set in
    let there : IsReachedFrom (min (all_numbers c) (2 ^ 64 - 1)) edges roots number.0 =
    (small_number c item number.0 number.1, walk.1, suc walk.2, walk.3, (from, walk.4, among (from, number.0) edge)) in
    left_if_set c marks left item number.0 are number.1 ((reached number.0).1 there)
