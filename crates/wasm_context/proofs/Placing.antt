-- The types of groups, as one more group is added.
use Rattle.std.proofs.Common.{◌≡◌, ℕ, ◌+◌, ◌≤◌, List, [], ◌∷◌, ◌++◌, length, take, drop, Bool, true, false, cond, Option, Some, None, refl, sym, ap, subst, ◌∙◌, arith, append_assoc, length-append}
use Rattle.std.specs.Prelude.{map, zip, find, nat_eq, option_map, unwrap_or}
use Rattle.std.specs.List.{list_all, flat_map, range_with_len}
use Rattle.std.specs.Option.{option_or}
use Rattle.std.specs.Cmp.Lexicographic.{pointwise}
use Rattle.std.proofs.lemmas.Bool.{and_from, and_parts}
use Rattle.std.proofs.lemmas.List.{append-nil, map-append, length-map, length-take-le, take-append-drop, take-append-le, take_at}
use Rattle.std.proofs.lemmas.List.Folds.{find-append}
use Rattle.std.proofs.lemmas.List.FromFn.{length-range_with_len}
use Rattle.std.proofs.lemmas.Grind.{flat_map-append}
use Rattle.std.proofs.lemmas.Slice.Zip.{seconds-zip}
use Rattle.wasm_typing.specs.Contexts.{DefinedType, OperandContext}
use Rattle.wasm_typing.specs.RecursiveTypes.{DeclaredType, Group, PlacedGroup, same_group, first_place, first_ids, defined, defined_types}
use Rattle.wasm_context.specs.declared.definitions.Definitions.{Definitions}
use Rattle.wasm_context.specs.declared.declared_type.DeclaredType as declared
use Rattle.wasm_context.specs.declared.types.DefinedType as code
use Rattle.wasm_context.specs.Contexts.{defined_of, without_locals}
use Rattle.wasm_context.specs.Declarations.{declared_of, declared_within, firsts_in, group_key, at_key, TakesPlace, group_places_from, closed_from, firsts_of, placed_key}
use Rattle.wasm_context.specs.Definitions.{IsDefining}
use Rattle.wasm_context.proofs.GroupKeys.{same_keys}

-- ---- ends of groups

-- the id after the last type of these groups, the first of which begins at b
abbrev end_from : ℕ → List Group → ℕ
end_from b [] = b
end_from b (g ∷ gs) = end_from (b + length g) gs

end_rises : (b : ℕ) (gs : List Group) → b ≤ end_from b gs
end_rises b [] = omega arith
end_rises b (g ∷ gs) = let later = end_rises (b + length g) gs in omega arith

placed_from-more : (b : ℕ) (gs : List Group) (g : Group) → group_places_from b (gs ++ g ∷ []) ≡ group_places_from b gs ++ (end_from b gs, g) ∷ []
placed_from-more b [] g = refl
placed_from-more b (h ∷ hs) g = ap (λ l. (b, h) ∷ l) (placed_from-more (b + length h) hs g)

closed_from-more : (b : ℕ) (gs : List Group) (g : Group) → closed_from b gs ≡ true → list_all (declared_within (end_from b gs + length g)) g ≡ true
    → closed_from b (gs ++ g ∷ []) ≡ true
closed_from-more b [] g closed here = and_from (list_all (declared_within (b + length g)) g) true here refl
closed_from-more b (h ∷ hs) g closed here =
    let both = and_parts (list_all (declared_within (b + length h)) h) (closed_from (b + length h) hs) closed in
    and_from (list_all (declared_within (b + length h)) h) (closed_from (b + length h) (hs ++ g ∷ [])) both.0 (closed_from-more (b + length h) hs g both.1 here)

-- ---- first ids

first_ids-more : (before : List PlacedGroup) (firsts : List ℕ) (b : ℕ) (gs : List Group) (g : Group)
    → first_ids before firsts b (gs ++ g ∷ [])
    ≡ first_ids before firsts b gs ++ range_with_len (first_place (before ++ group_places_from b gs) (first_ids before firsts b gs) (end_from b gs) g) (length g)
first_ids-more before firsts b [] g = ap (λ ps. firsts ++ range_with_len (first_place ps firsts b g) (length g)) (sym (append-nil before))
first_ids-more before firsts b (h ∷ hs) g =
    let more = before ++ (b, h) ∷ [] in
    let next = firsts ++ range_with_len (first_place before firsts b h) (length h) in
    first_ids-more more next (b + length h) hs g
    ∙ ap (λ ps. first_ids more next (b + length h) hs ++ range_with_len (first_place ps (first_ids more next (b + length h) hs) (end_from (b + length h) hs) g) (length g))
    (append_assoc before ((b, h) ∷ []) (group_places_from (b + length h) hs))

length-first_ids : (before : List PlacedGroup) (firsts : List ℕ) (b : ℕ) (gs : List Group) → length (first_ids before firsts b gs) + b ≡ length firsts + end_from b gs
length-first_ids before firsts b [] = refl
length-first_ids before firsts b (h ∷ hs) =
    let place = first_place before firsts b h in
    let next = firsts ++ range_with_len place (length h) in
    let rest = length-first_ids (before ++ (b, h) ∷ []) next (b + length h) hs in
    let long = length-append firsts (range_with_len place (length h)) in
    let range = length-range_with_len place (length h) in
    omega arith

length-firsts_of : (gs : List Group) → length (firsts_of gs) ≡ end_from 0 gs
length-firsts_of gs = let long = length-first_ids [] [] 0 gs in omega arith

length-flat : (b : ℕ) (gs : List Group) → length (flat_map (λ (g : Group). g) gs) + b ≡ end_from b gs
length-flat b [] = omega arith
length-flat b (g ∷ gs) =
    let rest = length-flat (b + length g) gs in
    let long = length-append g (flat_map (λ (g : Group). g) gs) in
    omega arith

pub length-flat_is : (gs : List Group) → length (flat_map (λ (g : Group). g) gs) ≡ length (firsts_of gs)
length-flat_is gs = let types = length-flat 0 gs in let firsts = length-firsts_of gs in omega arith

abbrev place_of : List Group → Group → ℕ
place_of gs g = first_place (group_places_from 0 gs) (firsts_of gs) (length (firsts_of gs)) g

firsts_of-more : (gs : List Group) (g : Group) → firsts_of (gs ++ g ∷ []) ≡ firsts_of gs ++ range_with_len (place_of gs g) (length g)
firsts_of-more gs g =
    first_ids-more [] [] 0 gs g
    ∙ ap (λ n. firsts_of gs ++ range_with_len (first_place (group_places_from 0 gs) (firsts_of gs) n g) (length g)) (sym (length-firsts_of gs))

-- ---- types

zip-append : {A B : Type 0} (xs zs : List A) (ys ws : List B) → length xs ≡ length ys → zip (xs ++ zs) (ys ++ ws) ≡ zip xs ys ++ zip zs ws
zip-append [] zs [] ws h = refl
zip-append [] zs (y ∷ ys) ws h = absurd (omega arith)
zip-append (x ∷ xs) zs [] ws h = absurd (omega arith)
zip-append (x ∷ xs) zs (y ∷ ys) ws h = ap (λ l. (x, y) ∷ l) (zip-append xs zs ys ws (omega arith))

defined_types-more : (gs : List Group) (g : Group)
    → defined_types (gs ++ g ∷ []) ≡ defined_types gs ++ map defined (zip g (range_with_len (place_of gs g) (length g)))
defined_types-more gs g =
    let range = range_with_len (place_of gs g) (length g) in
    let flat = flat_map (λ (h : Group). h) gs in
    let types : flat_map (λ (h : Group). h) (gs ++ g ∷ []) ≡ flat ++ g = flat_map-append (λ (h : Group). h) gs (g ∷ []) ∙ ap (λ l. flat ++ l) (append-nil g) in
    let long_types = length-flat 0 gs in
    let long_firsts = length-firsts_of gs in
    let long : length flat ≡ length (firsts_of gs) = omega arith in
    (λ i. map defined (zip (types i) (firsts_of-more gs g i)))
    ∙ ap (map defined) (zip-append flat g (firsts_of gs) range long)
    ∙ map-append defined (zip flat (firsts_of gs)) (zip g range)

firsts_defined : (ps : List (DeclaredType × ℕ)) → map (λ (t : DefinedType). t.first) (map defined ps) ≡ map (λ (p : DeclaredType × ℕ). p.1) ps
firsts_defined [] = refl
firsts_defined (p ∷ ps) = ap (λ l. p.1 ∷ l) (firsts_defined ps)

firsts_of_code : (ts : List code.DefinedType) → map (λ (t : DefinedType). t.first) (map defined_of ts) ≡ firsts_in ts
firsts_of_code [] = refl
firsts_of_code (t ∷ ts) = ap (λ l. t.first ∷ l) (firsts_of_code ts)

-- the first ids of the types that the code has
pub firsts_are : (ts : List code.DefinedType) (gs : List Group) → map defined_of ts ≡ defined_types gs → firsts_in ts ≡ firsts_of gs
firsts_are ts gs same =
    let flat = flat_map (λ (h : Group). h) gs in
    let long_types = length-flat 0 gs in
    let long_firsts = length-firsts_of gs in
    let long : length (firsts_of gs) ≡ length flat = omega arith in
    sym (firsts_of_code ts) ∙ ap (map (λ (t : DefinedType). t.first)) same ∙ firsts_defined (zip flat (firsts_of gs)) ∙ seconds-zip flat (firsts_of gs) long

-- one more type of a group
pub one_pushed : (ts : List code.DefinedType) (new : code.DefinedType) (t : DeclaredType) (next : ℕ) (rest : List DeclaredType) → defined_of new ≡ defined (t, next)
    → map defined_of (ts ++ new ∷ []) ++ map defined (zip rest (range_with_len (next + 1) (length rest)))
    ≡ map defined_of ts ++ map defined (zip (t ∷ rest) (range_with_len next (length (t ∷ rest))))
one_pushed ts new t next rest is =
    let after = map defined (zip rest (range_with_len (next + 1) (length rest))) in
    ap (λ l. l ++ after) (map-append defined_of ts (new ∷ [])) ∙ append_assoc (map defined_of ts) (defined_of new ∷ []) after
    ∙ ap (λ x. map defined_of ts ++ x ∷ after) is

-- ---- equal groups, by their keys

same_at : (fs : List ℕ) (b : ℕ) (h g : Group) → b ≤ length fs → list_all (declared_within (b + length h)) h ≡ true → list_all (declared_within (length fs + length g)) g ≡ true
    → same_group fs b (length fs) (length g) h g ≡ pointwise nat_eq (group_key fs g) (group_key (take b fs) h)
same_at fs b h g low closed_h closed_g =
    let front = take b fs in
    let back = drop b fs in
    subst (λ (n : ℕ). list_all (declared_within (n + length h)) h ≡ true → same_group fs n (length fs) (length g) h g ≡ pointwise nat_eq (group_key fs g) (group_key front h))
    (length-take-le b fs low)
    (λ closed. subst (λ (l : List ℕ). list_all (declared_within (length l + length g)) g ≡ true
    → same_group l (length front) (length l) (length g) h g ≡ pointwise nat_eq (group_key l g) (group_key front h))
    (take-append-drop b fs) (same_keys front back h g closed) closed_g) closed_h

find-keys : (fs : List ℕ) (g : Group) → list_all (declared_within (length fs + length g)) g ≡ true → (b : ℕ) (gs : List Group) → closed_from b gs ≡ true → end_from b gs ≤ length fs
    → find (λ (p : PlacedGroup). same_group fs p.0 (length fs) (length g) p.1 g) (group_places_from b gs)
    ≡ find (λ (p : PlacedGroup). pointwise nat_eq (group_key fs g) (group_key (take p.0 fs) p.1)) (group_places_from b gs)
find-keys fs g closed_g b [] closed low = refl
find-keys fs g closed_g b (h ∷ hs) closed low =
    let both = and_parts (list_all (declared_within (b + length h)) h) (closed_from (b + length h) hs) closed in
    let rises = end_rises (b + length h) hs in
    let rest = find-keys fs g closed_g (b + length h) hs both.1 low in
    let same = same_at fs b h g (omega arith) both.0 closed_g in
    λ i. cond (same i) (Some (b, h)) (rest i)

-- the keys of groups stay where more first ids follow
find-longer : (fs more key : List ℕ) (b : ℕ) (gs : List Group) → end_from b gs ≤ length fs
    → find (λ (p : PlacedGroup). pointwise nat_eq key (group_key (take p.0 (fs ++ more)) p.1)) (group_places_from b gs)
    ≡ find (λ (p : PlacedGroup). pointwise nat_eq key (group_key (take p.0 fs) p.1)) (group_places_from b gs)
find-longer fs more key b [] low = refl
find-longer fs more key b (h ∷ hs) low =
    let rises = end_rises (b + length h) hs in
    let rest = find-longer fs more key (b + length h) hs low in
    let front = take-append-le b fs more (omega arith) in
    λ i. cond (pointwise nat_eq key (group_key (front i) h)) (Some (b, h)) (rest i)

pub types_are : (d : Definitions) (gs : List Group) → IsDefining d gs → map defined_of d.context.types.items ≡ defined_types gs
types_are d gs is = ap (λ (c : OperandContext). c.types) is.context_is

-- a context with other types
abbrev pub with_types : OperandContext → List DefinedType → OperandContext
with_types c ts = record {
  types = ts;
  functions = c.functions;
  referenced = c.referenced;
  tables = c.tables;
  memories = c.memories;
  globals = c.globals;
  elements = c.elements;
  data_segments = c.data_segments;
  locals = c.locals;
}

finals-more : (gs : List Group) (g : Group)
    → map (λ (t : DeclaredType). t.final) (flat_map (λ (h : Group). h) (gs ++ g ∷ [])) ≡ map (λ (t : DeclaredType). t.final) (flat_map (λ (h : Group). h) gs) ++ map (λ (t : DeclaredType). t.final) g
finals-more gs g =
    let final = λ (t : DeclaredType). t.final in
    ap (map final) (flat_map-append (λ (h : Group). h) gs (g ∷ []) ∙ ap (λ l. flat_map (λ (h : Group). h) gs ++ l) (append-nil g))
    ∙ map-append final (flat_map (λ (h : Group). h) gs) g

pub finals_declared : (ts : List declared.DeclaredType) → map (λ (t : declared.DeclaredType). t.is_final) ts ≡ map (λ (t : DeclaredType). t.final) (map declared_of ts)
finals_declared [] = refl
finals_declared (t ∷ ts) = ap (λ l. t.is_final ∷ l) (finals_declared ts)

-- ---- places

place_is : (d : Definitions) (gs : List Group) (g : Group) → IsDefining d gs → list_all (declared_within (length (firsts_of gs) + length g)) g ≡ true
    → place_of gs g ≡ unwrap_or (at_key d.places (group_key (firsts_of gs) g)) (length (firsts_of gs))
place_is d gs g is closed_g =
    let long = length-firsts_of gs in
    ap (λ o. unwrap_or (option_map (λ (p : PlacedGroup). p.0) o) (length (firsts_of gs))) (find-keys (firsts_of gs) g closed_g 0 gs is.closed (omega arith))
    ∙ ap (λ o. unwrap_or o (length (firsts_of gs))) (sym (is.places_are (group_key (firsts_of gs) g)))

low_first : (found : Bool) (b : ℕ) (g : Group) (o : Option PlacedGroup) (end : ℕ) → b ≤ end → unwrap_or (option_map (λ (p : PlacedGroup). p.0) o) end ≤ end
    → unwrap_or (option_map (λ (p : PlacedGroup). p.0) (cond found (Some (b, g)) o)) end ≤ end
low_first true b g o end here after = here
low_first false b g o end here after = after

place_low : (test : PlacedGroup → Bool) (b : ℕ) (gs : List Group) (end : ℕ) → end_from b gs ≤ end
    → unwrap_or (option_map (λ (p : PlacedGroup). p.0) (find test (group_places_from b gs))) end ≤ end
place_low test b [] end low = omega arith
place_low test b (h ∷ hs) end low =
    let rises = end_rises (b + length h) hs in
    low_first (test (b, h)) b h (find test (group_places_from (b + length h) hs)) end (omega arith) (place_low test (b + length h) hs end low)

first_kept : {A B : Type 0} (f : A → B) (o p : Option A) → option_map f (option_or o p) ≡ option_or (option_map f o) (option_map f p)
first_kept f None p = refl
first_kept f (Some x) p = refl

one_group : (test : Bool) (b : ℕ) (g : Group) → option_map (λ (p : PlacedGroup). p.0) (cond test (Some (b, g)) None) ≡ cond test (Some b) None
one_group true b g = refl
one_group false b g = refl

-- ---- one more group

module _ (d e : Definitions) (gs : List Group) (g : Group) (first start : ℕ) (key : List ℕ) (is : IsDefining d gs) (starts : start ≡ length d.context.types.items)
    (key_is : key ≡ group_key (firsts_in d.context.types.items) g) (closed_g : list_all (declared_within (start + length g)) g ≡ true) (first_is : first ≡ unwrap_or (at_key d.places key) start) where
  firsts : firsts_in d.context.types.items ≡ firsts_of gs
  firsts = firsts_are d.context.types.items gs (types_are d gs is)

  start_is : start ≡ length (firsts_of gs)
  start_is = starts ∙ sym (length-map d.context.types.items (λ (t : code.DefinedType). t.first)) ∙ ap length firsts

  key_of : key ≡ group_key (firsts_of gs) g
  key_of = key_is ∙ ap (λ fs. group_key fs g) firsts

  closed_here : list_all (declared_within (length (firsts_of gs) + length g)) g ≡ true
  closed_here = ap (λ n. list_all (declared_within (n + length g)) g) (sym start_is) ∙ closed_g

  place : first ≡ place_of gs g
  place = first_is ∙ (λ i. unwrap_or (at_key d.places (key_of i)) (start_is i)) ∙ sym (place_is d gs g is closed_here)

  pub first_low : first ≤ start
  first_low =
      let long = length-firsts_of gs in
      let known : first ≡ unwrap_or (option_map (λ (p : PlacedGroup). p.0) (find (λ (p : PlacedGroup). pointwise nat_eq key (placed_key gs p)) (group_places_from 0 gs))) start = first_is ∙ ap (λ o. unwrap_or o start) (is.places_are key) in
      let at_start = start_is in
      let low = place_low (λ (p : PlacedGroup). pointwise nat_eq key (placed_key gs p)) 0 gs start (omega arith) in
      omega arith

  pub defines : map defined_of e.context.types.items ≡ map defined_of d.context.types.items ++ map defined (zip g (range_with_len first (length g)))
      → without_locals e.context ≡ with_types (without_locals d.context) (map defined_of e.context.types.items)
      → e.finals.items ≡ d.finals.items ++ map (λ (t : DeclaredType). t.final) g
      → TakesPlace key start d.places e.places → IsDefining e (gs ++ g ∷ [])
  defines types context finals places = record {
    context_is =
        let all = types ∙ (λ i. types_are d gs is i ++ map defined (zip g (range_with_len (place i) (length g)))) ∙ sym (defined_types-more gs g) in
        context ∙ (λ i. with_types (is.context_is i) (all i));
    finals_are = finals ∙ ap (λ l. l ++ map (λ (t : DeclaredType). t.final) g) is.finals_are ∙ sym (finals-more gs g);
    closed = let end = length-firsts_of gs in closed_from-more 0 gs g is.closed (ap (λ n. list_all (declared_within (n + length g)) g) (sym end) ∙ closed_here);
    places_are = λ other.
        let fs = firsts_of gs in
        let range = range_with_len (place_of gs g) (length g) in
        let test = λ (p : PlacedGroup). pointwise nat_eq other (placed_key (gs ++ g ∷ []) p) in
        let end = length-firsts_of gs in
        let old : find test (group_places_from 0 gs) ≡ find (λ (p : PlacedGroup). pointwise nat_eq other (placed_key gs p)) (group_places_from 0 gs) =
        ap (λ l. find (λ (p : PlacedGroup). pointwise nat_eq other (group_key (take p.0 l) p.1)) (group_places_from 0 gs)) (firsts_of-more gs g)
        ∙ find-longer fs range other 0 gs (omega arith) in
        let own : group_key (take (end_from 0 gs) (firsts_of (gs ++ g ∷ []))) g ≡ key =
        ap (λ l. group_key l g) ((λ i. take (sym end i) (firsts_of-more gs g i)) ∙ take_at fs range (length fs) refl) ∙ sym key_of in
        let all : find test (group_places_from 0 (gs ++ g ∷ [])) ≡ option_or (find test (group_places_from 0 gs)) (cond (pointwise nat_eq other key) (Some (end_from 0 gs, g)) None) =
        ap (find test) (placed_from-more 0 gs g) ∙ find-append test (group_places_from 0 gs) ((end_from 0 gs, g) ∷ [])
        ∙ ap (λ k. option_or (find test (group_places_from 0 gs)) (cond (pointwise nat_eq other k) (Some (end_from 0 gs, g)) None)) own in
        let starts_there : start ≡ end_from 0 gs = start_is ∙ end in
        let fst = λ (p : PlacedGroup). p.0 in
        let more = cond (pointwise nat_eq other key) (Some (end_from 0 gs, g)) None in
        places other
        ∙ (λ i. option_or (is.places_are other i) (cond (pointwise nat_eq other key) (Some (starts_there i)) None))
        ∙ ap (λ o. option_or (option_map fst o) (cond (pointwise nat_eq other key) (Some (end_from 0 gs)) None)) (sym old)
        ∙ ap (option_or (option_map fst (find test (group_places_from 0 gs)))) (sym (one_group (pointwise nat_eq other key) (end_from 0 gs) g))
        ∙ sym (first_kept fst (find test (group_places_from 0 gs)) more)
        ∙ ap (option_map fst) (sym all);
  }
