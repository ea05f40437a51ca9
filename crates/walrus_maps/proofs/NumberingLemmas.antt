-- Pushing distinct ids numbers them by their positions.
use Rattle.std.proofs.Common.{◌≡◌, ℕ, zero, suc, List, [], ◌∷◌, ◌++◌, length, false, cond, Some, None, Ok, nat_eq, ◌==◌, refl, sym, ap, subst, ◌∙◌, arith, append_assoc, append-nil, length-append}
use Rattle.std.specs.Prelude.{slice_get}
use Rattle.std.specs.List.{IsDistinct, AllByRecursion}
use Rattle.std.specs.Ordering.{nat_cmp}
use Rattle.std.specs.Cmp.{nat_cmp_total, unsigned_tied}
use Rattle.std.specs.FinMap.{FinMap, empty, get, len, get-insert, get-empty, len-insert, len-empty}
use Rattle.std.proofs.lemmas.Bool.Decides.{nat_tests}
use Rattle.std.proofs.lemmas.Option.{slice_get_within}
use Rattle.std.proofs.Math.Dec.{eqb-suc-zero, eqb-zero-suc}
use Rattle.std.proofs.lemmas.Map.Keys.{IsDistinct-head, IsDistinct-tail}
use Rattle.wasm_operators.specs.declared.types.Space.{Space}
use Rattle.wasm_operators.specs.declared.types.Space.TheVariants.{Tables, Types, Funcs, Globals, Memories, Elements, Data, Tags}
use Rattle.walrus_maps.specs.declared.ids_to_indices.IdsToIndices.{IdsToIndices}
use Rattle.walrus_maps.specs.IndexMaps.{numbers_in, with_numbers, with_next_number, numbered, number_of}
use Rattle.wasm_body.specs.declared.error.IndexError.TheVariants.{Unnumbered}
use Rattle.wasm_numbers.specs.Results.{some_or}
use Rattle.wasm_numbers.proofs.ResultLemmas.{some_or_ok}
use Rattle.walrus_maps.specs.Numbering.{pushed, AreNumberedInOrder, PushesNumberInOrder}

-- the item at a position of a list with one more item
slice_get-push : {X : Type 0} (xs : List X) (x : X) (k : ℕ) → slice_get (xs ++ x ∷ []) k ≡ cond (k == length xs) (Some x) (slice_get xs k)
slice_get-push [] x zero = refl
slice_get-push [] x (suc k) = ap (λ b. cond b (Some x) None) (sym (eqb-suc-zero k))
slice_get-push (y ∷ ys) x zero = ap (λ b. cond b (Some x) (Some y)) (sym (eqb-zero-suc (length ys)))
slice_get-push (y ∷ ys) x (suc k) = grind (arith, nat_tests, slice_get-push ys x k)

-- the numbers of these ids are their positions, and no other id has one
record ByPlace (ids : List ℕ) (m : FinMap nat_cmp ℕ) : Type 0 where
  place : (id number : ℕ) → get m id ≡ Some number → slice_get ids number ≡ Some id
  number : (id number : ℕ) → slice_get ids number ≡ Some id → get m id ≡ Some number
  count : len m ≡ length ids

-- none of these ids has a number
abbrev AreNew : FinMap nat_cmp ℕ → List ℕ → Type 0
AreNew m ids = AllByRecursion (λ id. get m id ≡ None) ids

-- the numbers after one more id got one
pub get-numbered : (m : FinMap nat_cmp ℕ) (id q : ℕ) → get (numbered m id) q ≡ cond (q == id) (Some (len m)) (get m q)
get-numbered m id q = get-insert nat_cmp_total m id (len m) q ∙ ap (λ b. cond b (Some (len m)) (get m q)) (unsigned_tied q id)

-- a new id gets the next position
one_more : (ids : List ℕ) (m : FinMap nat_cmp ℕ) (id : ℕ) → get m id ≡ None → ByPlace ids m → ByPlace (ids ++ id ∷ []) (numbered m id)
one_more ids m id new b = record {
  place = λ q n has.
      let after = get-numbered m id q in let pushed = slice_get-push ids id n in let before = b.place q n in let within = slice_get_within ids n q in
      grind (arith, nat_tests, b.count);
  number = λ q n at.
      let after = get-numbered m id q in let pushed = slice_get-push ids id n in let before = b.number q n in
      grind (arith, nat_tests, b.count, new);
  count = len-insert nat_cmp_total m id (len m) ∙ grind (arith, new, b.count, length-append);
}

-- an empty map numbers nothing
none_yet : ByPlace [] empty
none_yet = record {
  place = λ q n has. let none = get-empty {X = ℕ} nat_cmp q in absurd cc;
  number = λ q n at. absurd cc;
  count = len-empty nat_cmp ℕ;
}

-- the other ids are still new
still_new : (m : FinMap nat_cmp ℕ) (id : ℕ) (ids : List ℕ) → AllByRecursion (λ other. nat_eq id other ≡ false) ids → AreNew m ids → AreNew (numbered m id) ids
still_new m id [] apart new = tt
still_new m id (other ∷ ids) apart new =
    let after = get-numbered m id other in
    (grind (arith, nat_tests, apart.0, new.0), still_new m id ids apart.1 new.1)

-- in an empty map each id is new
all_new : (ids : List ℕ) → AreNew empty ids
all_new [] = tt
all_new (id ∷ ids) = (get-empty nat_cmp id, all_new ids)

-- ---- the maps of a module

-- the numbers of a space are those that were put into it
numbers_in-with_numbers : (space : Space) (numbers : FinMap nat_cmp ℕ) (m : IdsToIndices) → numbers_in (with_numbers space numbers m) space ≡ numbers
numbers_in-with_numbers Tables numbers m = refl
numbers_in-with_numbers Types numbers m = refl
numbers_in-with_numbers Funcs numbers m = refl
numbers_in-with_numbers Globals numbers m = refl
numbers_in-with_numbers Memories numbers m = refl
numbers_in-with_numbers Elements numbers m = refl
numbers_in-with_numbers Data numbers m = refl
numbers_in-with_numbers Tags numbers m = refl

-- more ids are pushed after those whose numbers are their positions
by_place-pushed : (space : Space) (done ids : List ℕ) (m : IdsToIndices) → IsDistinct nat_eq ids → AreNew (numbers_in m space) ids → ByPlace done (numbers_in m space) → ByPlace (done ++ ids) (numbers_in (pushed space ids m) space)
by_place-pushed space done [] m distinct new places = subst (λ ids. ByPlace ids (numbers_in m space)) (sym (append-nil done)) places
by_place-pushed space done (id ∷ ids) m distinct new places =
    let after : numbered (numbers_in m space) id ≡ numbers_in (with_next_number space id m) space = sym (numbers_in-with_numbers space _ m) in
    let others = subst (λ numbers. AreNew numbers ids) after (still_new (numbers_in m space) id ids (IsDistinct-head nat_eq id ids distinct) new.1) in
    let one = subst (ByPlace (done ++ id ∷ [])) after (one_more done (numbers_in m space) id new.0 places) in
    subst (λ all. ByPlace all (numbers_in (pushed space (id ∷ ids) m) space)) (append_assoc done (id ∷ []) ids)
    (by_place-pushed space (done ++ id ∷ []) ids (with_next_number space id m) (IsDistinct-tail nat_eq id ids distinct) others one)

-- the maps return the numbers by position
in_order : (space : Space) (ids : List ℕ) (m : IdsToIndices) → ByPlace ids (numbers_in m space) → AreNumberedInOrder space ids m
in_order space ids m places =
    let found : (id index : ℕ) → number_of m space id ≡ Ok index → slice_get ids index ≡ Some id = λ id index has. places.place id index (some_or_ok _ _ index has) in
    record {
      by_place = λ id index. (found id index, λ at. ap (λ o. some_or o (Unnumbered space)) (places.number id index at));
      injective = λ a b index has_a has_b. let at_a = found a index has_a in let at_b = found b index has_b in cc;
    }

pub pushes_number_in_order : PushesNumberInOrder
pushes_number_in_order space ids m distinct none =
    in_order space ids (pushed space ids m)
    (by_place-pushed space [] ids m distinct (subst (λ numbers. AreNew numbers ids) (sym none) (all_new ids)) (subst (ByPlace []) (sym none) none_yet))
