-- References to items, added one after the other.
use Rattle.std.proofs.Common.{◌≡◌, ◌↔◌, ℕ, ◌+◌, ◌<◌, ◌^◌, Bool, true, false, nat_lt, List, [], ◌∷◌, ◌++◌, map, Option, Some, None, Result, Ok, Err, OnOk, refl, sym, ap, subst, ◌∙◌, inl, inr, arith, append_assoc}
use Rattle.std.proofs.lemmas.Bool.{ltb-true}
use Rattle.std.proofs.lemmas.List.{append-nil, map-append}
use Rattle.std.proofs.lemmas.List.Elements.{Contains-push_cases}
use Rattle.std.specs.List.{Contains}
use Rattle.reaching.specs.Reaching.{edges_of, IsReachedFrom}
use Rattle.reaching.specs.Searching.{is_set}
use Rattle.wasm_operators.specs.declared.types.Space.{Space}
use Rattle.wasm_operators.specs.declared.types.Space.TheVariants.{Tables, Types, Funcs, Globals, Memories, Elements, Data, Tags}
use Rattle.wasm_sections.specs.declared.fault.ModuleError.{ModuleError}
use Rattle.module_removal.specs.declared.item.Item.{Item}
use Rattle.module_removal.specs.declared.item.ItemCounts.{ItemCounts}
use Rattle.module_removal.specs.declared.references.References.{References}
use Rattle.module_removal.specs.ItemNumbers.{count_of, first_number, all_numbers, number_if, number_of_item}
use Rattle.module_removal.specs.Edges.{edges_from, RefersTo, ItemRefersTo, AddsReferencesTo, IsNotThere}

-- ---- numbers

number_is : (is_item fits : Bool) (m n : ℕ) → number_if is_item fits m ≡ Some n → (is_item ≡ true) × (m ≡ n)
number_is true true m n e = (refl, cc)
number_is true false m n e = absurd cc
number_is false fits m n e = absurd cc

space_within : (c : ItemCounts) (s : Space) (i : ℕ) → i < count_of c s → first_number c s + i < all_numbers c
space_within c Types i lt = omega arith
space_within c Funcs i lt = omega arith
space_within c Tables i lt = omega arith
space_within c Memories i lt = omega arith
space_within c Globals i lt = omega arith
space_within c Tags i lt = omega arith
space_within c Elements i lt = omega arith
space_within c Data i lt = omega arith

-- the number of an item is below that of all numbers
pub number_within : (c : ItemCounts) (item : Item) (n : ℕ) → number_of_item c item ≡ Some n → n < all_numbers c
number_within c item n e =
    let is = number_is (nat_lt item.index (count_of c item.space)) (nat_lt (first_number c item.space + item.index) (2 ^ 32))
    (first_number c item.space + item.index) n e in
    subst (λ (m : ℕ). m < all_numbers c) is.1 (space_within c item.space item.index (ltb-true item.index (count_of c item.space) is.0))

-- ---- one item

pub refers_to_one :
    (from n : ℕ) (item : Item) (old new : References) (r : Result (Unit {0}) ModuleError) → number_of_item old.counts item ≡ Some n → new.counts ≡ old.counts →
    new.taken ≡ old.taken →
    OnOk r (from < all_numbers old.counts → n < all_numbers old.counts → edges_of new.graph ≡ edges_of old.graph ++ (from, n) ∷ []) →
    OnOk r (AddsReferencesTo from (item ∷ []) old new)
refers_to_one from n item old new (Ok u) is counts taken edges = record {
  counts = counts;
  taken = taken;
  refers = λ within. record {
    numbers = n ∷ [];
    are = ap (λ (o : Option ℕ). (let l : List (Option ℕ) = o ∷ [] in l)) is;
    edges = edges within (number_within old.counts item n is);
  };
}
refers_to_one from n item old new (Err e) is counts taken edges = tt

-- an edge between two items
pub item_refers :
    (m n : ℕ) (from to : Item) (old new : References) (r : Result (Unit {0}) ModuleError) → number_of_item old.counts from ≡ Some m →
    number_of_item old.counts to ≡ Some n →
    OnOk r (m < all_numbers old.counts → n < all_numbers old.counts → edges_of new.graph ≡ edges_of old.graph ++ (m, n) ∷ []) →
    OnOk r (ItemRefersTo old.counts from to (edges_of old.graph) (edges_of new.graph))
item_refers m n from to old new (Ok u) is_from is_to edges =
    (m, n, is_from, is_to, edges (number_within old.counts from m is_from) (number_within old.counts to n is_to))
item_refers m n from to old new (Err e) is_from is_to edges = tt

-- ---- one after the other

pub refers_to_none : (from : ℕ) (old : References) → AddsReferencesTo from [] old old
refers_to_none from old = record {
  counts = refl;
  taken = refl;
  refers = λ within. record { numbers = []; are = refl; edges = sym (append-nil (edges_of old.graph)) };
}

-- edges are there to some items, and then to others
refers_both :
    (c : ItemCounts) (from : ℕ) (xs ys : List Item) (a b d : List (ℕ × ℕ)) → RefersTo c from xs a b → RefersTo c from ys b d → RefersTo c from (xs ++ ys) a d
refers_both c from xs ys a b d p q = record {
  numbers = p.numbers ++ q.numbers;
  are =
      map-append (number_of_item c) xs ys ∙ ap (λ (l : List (Option ℕ)). l ++ map (number_of_item c) ys) p.are
      ∙ ap (λ (l : List (Option ℕ)). map Some p.numbers ++ l) q.are ∙ sym (map-append Some p.numbers q.numbers);
  edges =
      q.edges ∙ ap (λ (l : List (ℕ × ℕ)). l ++ edges_from from q.numbers) p.edges
      ∙ append_assoc a (edges_from from p.numbers) (edges_from from q.numbers)
      ∙ ap (λ (l : List (ℕ × ℕ)). a ++ l) (sym (map-append (λ to. (from, to)) p.numbers q.numbers));
}

pub refers_to_both :
    (from : ℕ) (xs ys all : List Item) (old mid new : References) → AddsReferencesTo from xs old mid → AddsReferencesTo from ys mid new → all ≡ xs ++ ys →
    AddsReferencesTo from all old new
refers_to_both from xs ys all old mid new p q e = record {
  counts = q.counts ∙ p.counts;
  taken = q.taken ∙ p.taken;
  refers = λ within.
      subst (λ (l : List Item). RefersTo old.counts from l (edges_of old.graph) (edges_of new.graph)) (sym e)
      (refers_both old.counts from xs ys (edges_of old.graph) (edges_of mid.graph) (edges_of new.graph) (p.refers within)
      (subst (λ (c : ItemCounts). RefersTo c from ys (edges_of mid.graph) (edges_of new.graph)) p.counts
      (q.refers (subst (λ (c : ItemCounts). from < all_numbers c) (sym p.counts) within))));
}

-- one of some items isn't there
pub not_there_of :
    (c d : ItemCounts) (items : List Item) (item : Item) (at : ℕ) (e : ModuleError) → c ≡ d → Contains items item → IsNotThere c (item ∷ []) at e →
    IsNotThere d items at e
not_there_of c d items item at e same has (inl m) = inl m
not_there_of c d items item at e same has (inr h) = elim (Contains-push_cases [] item h.0 h.1) [
  | inl none ↦ absurd (omega (arith, none.1))
  | inr it ↦ inr (h.0, subst (Contains items) it has, subst (λ (k : ItemCounts). number_of_item k h.0 ≡ None) same h.2, h.3)
]

-- the same roots
pub reached_as :
    (items : ℕ) (es : List (ℕ × ℕ)) (marks : List Bool) (some all : List ℕ) → some ≡ all →
    ((x : ℕ) → (is_set marks x ≡ true) ↔ IsReachedFrom items es some x) → (x : ℕ) → (is_set marks x ≡ true) ↔ IsReachedFrom items es all x
reached_as items es marks some all e h x = subst (λ (roots : List ℕ). (is_set marks x ≡ true) ↔ IsReachedFrom items es roots x) e (h x)
