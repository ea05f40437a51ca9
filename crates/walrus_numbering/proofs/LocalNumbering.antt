-- Numbering the locals of a function, and declaring them.
use Rattle.std.proofs.Common.{◌≡◌, ℕ, suc, ◌+◌, ◌-◌, ◌^◌, ◌≤◌, ◌<◌, ◌==◌, List, [], ◌∷◌, ◌++◌, Bool, true, false, ◌&&◌, ◌||◌, cond, Option, Some, None, is_some, not, slice_get, Result, Ok, Err, length, get_or, take, drop, refl, sym, ap, subst, ◌∙◌, arith, add-one, drop-cons, append_assoc, length-append}
use Rattle.std.specs.List.{AllByRecursion, IsDistinct, filter}
use Rattle.std.specs.Option.{option_map, option_or}
use Rattle.std.specs.Map.{lookup}
use Rattle.std.specs.List.Sorted.{IsPermutation}
use Rattle.std.specs.Ordering.{nat_cmp, is_lt, is_eq, ordering_then, ordering_reverse}
use Rattle.std.specs.declared.cmp.Ordering.{Ordering}
use Rattle.std.specs.declared.cmp.Ordering.TheVariants.{Less, Equal, Greater}
use Rattle.std.specs.Cmp.{unsigned_tied}
use Rattle.std.proofs.lemmas.Bool.{eqb-true, eq-eqb, lt-ltb, le-leb}
use Rattle.std.proofs.lemmas.Option.{slice_get_within}
use Rattle.std.proofs.lemmas.Cmp.{nat_eq_equiv}
use Rattle.std.proofs.lemmas.List.Elements.{All-from_recursion}
use Rattle.std.proofs.lemmas.List.Sorted.{IsPermutation-map, All-permutation, list_any-IsPermutation}
use Rattle.std.proofs.lemmas.Map.Keys.{IsDistinct-cons, IsDistinct-head, IsDistinct-tail, IsDistinct-IsPermutation, apart_from_distinct}
use Rattle.std.proofs.Math.ListN.{get_or-map}
use Rattle.std.proofs.Math.Bool.{and-true, and-false, or-true}
use Rattle.std.proofs.lemmas.List.{take_more, map-append, length-map, drop-map, length-take-le}
use Rattle.wasm_types.specs.declared.val_type.ValType.{ValType}
use Rattle.wasm_numbers.specs.Results.{◌>>=◌, some_or, unless, each}
use Rattle.walrus_ir.specs.Types.{same_type}
use Rattle.wasm_types.specs.TypeOrder.{type_order}
use Rattle.walrus_ir.specs.Unfolding.{among, Apart}
use Rattle.wasm_body.specs.declared.error.EmitError.{EmitError}
use Rattle.wasm_body.specs.declared.error.EmitError.TheVariants.{UnknownLocal, TooLarge}
use Rattle.wasm_body.specs.Bytes.{Numbers}
use Rattle.wasm_body.specs.LocalNumbers.{Local, local_order, AreDeclared, types_of, ids_of, last_place, number_of_local, one_more, runs, declarations, declared}
use Rattle.wasm_body.proofs.LocalNumbers.{same_type-Decides, local_order-total, last_place_get}
use Rattle.walrus_numbering.specs.EmittedLocals.{number_in, saturated, leading, typed_local, unnumbered, HasUnknown}
use Rattle.walrus_maps.proofs.Listed.{after_these}
use Rattle.walrus_maps.proofs.EntryMaps.{same_id, get-entries}

-- ---- numbers

-- putting an entry gives its id its number, and changes no other
pub one_number : (es fs : List (ℕ × ℕ)) (k n : ℕ) → ((q : ℕ) → lookup (same_id q) fs ≡ cond (same_id k q) (Some n) (lookup (same_id q) es))
    → (q : ℕ) → number_in fs q ≡ cond (k == q) (Some n) (number_in es q)
one_number es fs k n put q =
    get-entries fs q ∙ (put q ∙ (λ i. cond (and-true (k == q) i) (Some n) (sym (get-entries es q) i)))

pub last_place-push : (xs : List ℕ) (x q : ℕ) → last_place (xs ++ x ∷ []) q ≡ cond (x == q) (Some (length xs)) (last_place xs q)
last_place-push [] x q = refl
last_place-push (y ∷ ys) x q =
    ap (λ o. option_or (option_map (λ n. n + 1) o) (cond (y == q) (Some 0) None)) (last_place-push ys x q)
    ∙ elim (x == q) as (λ b. option_or (option_map (λ n. n + 1) (cond b (Some (length ys)) (last_place ys q))) (cond (y == q) (Some 0) None)
    ≡ cond b (Some (suc (length ys))) (option_or (option_map (λ n. n + 1) (last_place ys q)) (cond (y == q) (Some 0) None))) [
      | true ↦ ap Some (add-one (length ys))
      | false ↦ refl
    ]

-- one more argument
pub argument_numbered : (args : List ℕ) (i x n : ℕ) (es fs : List (ℕ × ℕ)) → i < length args → x ≡ get_or args i x → n ≡ saturated i
    → ((q : ℕ) → lookup (same_id q) fs ≡ cond (same_id x q) (Some n) (lookup (same_id q) es))
    → ((q : ℕ) → number_in es q ≡ option_map saturated (last_place (take i args) q))
    → (q : ℕ) → number_in fs q ≡ option_map saturated (last_place (take (i + 1) args) q)
argument_numbered args i x n es fs within is number put before q =
    let pushed = ap (λ xs. last_place xs q) (take_more args i x within ∙ ap (λ y. take i args ++ y ∷ []) (sym is)) ∙ (last_place-push (take i args) x q ∙ ap (λ n. cond (x == q) (Some n) (last_place (take i args) q)) (length-take-le i args (omega (arith, within)))) in
    one_number es fs x n put q
    ∙ (ap (λ m. cond (x == q) (Some m) (number_in es q)) number
    ∙ (ap (λ o. cond (x == q) (Some (saturated i)) o) (before q)
    ∙ (elim (x == q) as (λ b. cond b (Some (saturated i)) (option_map saturated (last_place (take i args) q)) ≡ option_map saturated (cond b (Some i) (last_place (take i args) q))) [ true ↦ refl | false ↦ refl ]
    ∙ ap (option_map saturated) (sym pushed))))

-- one more local after the arguments
pub other_numbered : (args : List ℕ) (others : List Local) (i : ℕ) (l : Local) (es fs : List (ℕ × ℕ)) → i < length others → l ≡ get_or others i l
    → ((q : ℕ) → lookup (same_id q) fs ≡ cond (same_id l.1 q) (Some (length args + i)) (lookup (same_id q) es))
    → ((q : ℕ) → number_in es q ≡ number_of_local args (ids_of (take i others)) q)
    → (q : ℕ) → number_in fs q ≡ number_of_local args (ids_of (take (i + 1) others)) q
other_numbered args others i l es fs within is put before q =
    let ids = ids_of (take i others) in
    let more : ids_of (take (i + 1) others) ≡ ids ++ l.1 ∷ [] =
    ap ids_of (take_more others i l within ∙ ap (λ k. take i others ++ k ∷ []) (sym is)) ∙ map-append (λ (k : Local). k.1) (take i others) (l ∷ []) in
    let long : length (args ++ ids) ≡ length args + i =
    length-append args ids ∙ ap (λ n. length args + n) (length-map (take i others) (λ (k : Local). k.1) ∙ length-take-le i others (omega (arith, within))) in
    let pushed : number_of_local args (ids_of (take (i + 1) others)) q ≡ cond (l.1 == q) (Some (length args + i)) (last_place (args ++ ids) q) =
    ap (λ xs. last_place (args ++ xs) q) more
    ∙ (ap (λ xs. last_place xs q) (sym (append_assoc args ids (l.1 ∷ [])))
    ∙ (last_place-push (args ++ ids) l.1 q ∙ ap (λ n. cond (l.1 == q) (Some n) (last_place (args ++ ids) q)) long)) in
    one_number es fs l.1 (length args + i) put q ∙ (ap (λ o. cond (l.1 == q) (Some (length args + i)) o) (before q) ∙ sym pushed)

-- ---- runs

pub leading_within : (t : ValType ℕ) (ts : List (ValType ℕ)) → leading t ts ≤ length ts
leading_within t [] = omega arith
leading_within t (u ∷ us) = elim (same_type t u) as (λ b. cond b (leading t us + 1) 0 ≤ suc (length us)) [ true ↦ omega (arith, leading_within t us) | false ↦ omega arith ]

dropped : (n : ℕ) (d : Local) (locals : List Local) → n < length locals → types_of (drop n locals) ≡ (get_or locals n d).0 ∷ types_of (drop (n + 1) locals)
dropped n d locals within = ap types_of (drop-cons locals n d within ∙ ap (λ k. get_or locals n d ∷ drop k locals) (sym (add-one n)))

pub leading_more : (t : ValType ℕ) (locals : List Local) (n : ℕ) (d : Local) → n < length locals → same_type t (get_or locals n d).0 ≡ true
    → leading t (types_of (drop n locals)) ≡ leading t (types_of (drop (n + 1) locals)) + 1
leading_more t locals n d within same =
    ap (leading t) (dropped n d locals within) ∙ ap (λ b. cond b (leading t (types_of (drop (n + 1) locals)) + 1) 0) same

pub leading_none : (t : ValType ℕ) (locals : List Local) (n : ℕ) (d : Local) → n < length locals → same_type t (get_or locals n d).0 ≡ false → leading t (types_of (drop n locals)) ≡ 0
leading_none t locals n d within other =
    ap (leading t) (dropped n d locals within) ∙ ap (λ b. cond b (leading t (types_of (drop (n + 1) locals)) + 1) 0) other

-- the first run, and the runs of the types after it
pub first_run : (t : ValType ℕ) (us : List (ValType ℕ)) → runs (t ∷ us) ≡ (leading t us + 1, t) ∷ runs (drop (leading t us) us)
first_run t [] = refl
first_run t (u ∷ us) =
    elim (same_type t u) as (λ b. same_type t u ≡ b → one_more t (runs (u ∷ us)) ≡ (cond b (leading t us + 1) 0 + 1, t) ∷ runs (drop (cond b (leading t us + 1) 0) (u ∷ us))) [
      | true ↦ λ same.
          let e : u ≡ t = sym ((same_type-Decides t u).0 same) in
          let rest = first_run u us in
          ap (one_more t) rest
          ∙ (ap (λ b. cond b ((leading u us + 1 + 1, t) ∷ runs (drop (leading u us) us)) ((1, t) ∷ (leading u us + 1, u) ∷ runs (drop (leading u us) us))) same
          ∙ (ap (λ v. (leading v us + 1 + 1, t) ∷ runs (drop (leading v us) us)) e
          ∙ ap (λ n. (leading t us + 1 + 1, t) ∷ runs (drop n (u ∷ us))) (sym (add-one (leading t us)))))
      | false ↦ λ other.
          ap (one_more t) (first_run u us)
          ∙ (ap (λ b. cond b ((leading u us + 1 + 1, t) ∷ runs (drop (leading u us) us)) ((1, t) ∷ (leading u us + 1, u) ∷ runs (drop (leading u us) us))) other
          ∙ ap (λ rs. (1, t) ∷ rs) (sym (first_run u us)))
    ] refl

-- one more run
pub run_found : (locals left following rest : List Local) (l : Local) (done found : List (ℕ × ValType ℕ)) (n : ℕ) → left ≡ l ∷ following → n ≡ leading l.0 (types_of following)
    → rest ≡ drop n following → done ++ runs (types_of left) ≡ runs (types_of locals) → found ≡ done ++ (n + 1, l.0) ∷ [] → found ++ runs (types_of rest) ≡ runs (types_of locals)
run_found locals left following rest l done found n first count others before pushed =
    let this = first_run l.0 (types_of following) in
    let here : runs (types_of left) ≡ (n + 1, l.0) ∷ runs (types_of rest) =
    ap (λ ls. runs (types_of ls)) first
    ∙ (this
    ∙ (ap (λ k. (k + 1, l.0) ∷ runs (drop k (types_of following))) (sym count)
    ∙ ap (λ ts. (n + 1, l.0) ∷ runs ts) (drop-map (λ (k : Local). k.0) n following ∙ ap types_of (sym others)))) in
    ap (λ rs. rs ++ runs (types_of rest)) pushed
    ∙ (append_assoc done ((n + 1, l.0) ∷ []) (runs (types_of rest))
    ∙ (ap (λ rs. done ++ rs) (sym here) ∙ before))

-- no entries, no numbers
pub none_numbered : (es : List (ℕ × ℕ)) → es ≡ [] → (q : ℕ) → number_in es q ≡ None
none_numbered es is q = get-entries es q ∙ ap (lookup (same_id q)) is

-- ---- the locals that are declared

module _ (types : List (ValType ℕ)) (numbers : List (ℕ × ℕ)) where
  abbrev Others : List ℕ → Result (List Local) EmitError
  Others ids = unnumbered types numbers ids

  -- whether an id has a number
  taken : (id : ℕ) (rest ids : List ℕ) (b : Bool) → ids ≡ id ∷ rest → is_some (lookup (same_id id) numbers) ≡ b
      → Others ids ≡ each (typed_local types) (cond (not b) (id ∷ filter (λ k. not (is_some (number_in numbers k))) rest) (filter (λ k. not (is_some (number_in numbers k))) rest))
  taken id rest ids b first has =
      ap Others first
      ∙ ap (λ (o : Option ℕ). each (typed_local types) (cond (not (is_some o)) (id ∷ filter (λ k. not (is_some (number_in numbers k))) rest) (filter (λ k. not (is_some (number_in numbers k))) rest))) (get-entries numbers id)
      ∙ ap (λ b. each (typed_local types) (cond (not b) (id ∷ filter (λ k. not (is_some (number_in numbers k))) rest) (filter (λ k. not (is_some (number_in numbers k))) rest))) has

  pub other_skipped : (id : ℕ) (rest ids : List ℕ) (found : List Local) (whole : Result (List Local) EmitError) → ids ≡ id ∷ rest → is_some (lookup (same_id id) numbers) ≡ true
      → after_these found (Others ids) ≡ whole → after_these found (Others rest) ≡ whole
  other_skipped id rest ids found whole first has before = ap (after_these found) (sym (taken id rest ids true first has)) ∙ before

  one_after : (found : List Local) (l : Local) (r : Result (List Local) EmitError) → after_these found (r >>= λ ls. Ok (l ∷ ls)) ≡ after_these (found ++ l ∷ []) r
  one_after found l (Ok ls) = ap Ok (sym (append_assoc found (l ∷ []) ls))
  one_after found l (Err e) = refl

  pub other_found : (id : ℕ) (t : ValType ℕ) (rest ids : List ℕ) (found more : List Local) (whole : Result (List Local) EmitError) → ids ≡ id ∷ rest → is_some (lookup (same_id id) numbers) ≡ false
      → slice_get types id ≡ Some t → more ≡ found ++ (t, id) ∷ [] → after_these found (Others ids) ≡ whole → after_these more (Others rest) ≡ whole
  other_found id t rest ids found more whole first has type pushed before =
      ap (λ ls. after_these ls (Others rest)) pushed
      ∙ (sym (one_after found (t, id) (Others rest))
      ∙ (ap (λ (o : Option (ValType ℕ)). after_these found ((some_or o UnknownLocal >>= λ u. Ok (u, id)) >>= λ l. Others rest >>= λ ls. Ok (l ∷ ls))) (sym type)
      ∙ (ap (after_these found) (sym (taken id rest ids false first has)) ∙ before)))

  pub other_unknown : (id : ℕ) (rest ids : List ℕ) (found : List Local) (whole : Result (List Local) EmitError) → ids ≡ id ∷ rest → is_some (lookup (same_id id) numbers) ≡ false
      → slice_get types id ≡ None → after_these found (Others ids) ≡ whole → whole ≡ Err UnknownLocal
  other_unknown id rest ids found whole first has type before =
      sym before
      ∙ (ap (after_these found) (taken id rest ids false first has)
      ∙ ap (λ (o : Option (ValType ℕ)). after_these found ((some_or o UnknownLocal >>= λ u. Ok (u, id)) >>= λ l. Others rest >>= λ ls. Ok (l ∷ ls))) type)

abbrev Typed : List (ValType ℕ) → Local → Type 0
Typed types l = slice_get types l.1 ≡ Some l.0

-- the locals that are found are those of the ids, each with its type
record AreTyped (types : List (ValType ℕ)) (ids : List ℕ) (ls : List Local) : Type 0 where
  are : ids_of ls ≡ ids
  typed : AllByRecursion (Typed types) ls

one_typed : (types : List (ValType ℕ)) (id : ℕ) (t : ValType ℕ) (ids : List ℕ) (ms ls : List Local) → slice_get types id ≡ Some t → AreTyped types ids ms → (t, id) ∷ ms ≡ ls → AreTyped types (id ∷ ids) ls
one_typed types id t ids ms ls has h is = subst (AreTyped types (id ∷ ids)) is (record { are = ap (λ ks. id ∷ ks) h.are; typed = (has, h.typed) })

each_typed : (types : List (ValType ℕ)) (ids : List ℕ) (ls : List Local) → each (typed_local types) ids ≡ Ok ls → AreTyped types ids ls
each_typed types [] ls h = let none : [] ≡ ls = cc in subst (AreTyped types []) none (record { are = refl; typed = tt })
each_typed types (id ∷ ids) ls h =
    elim (slice_get types id) as (λ o. slice_get types id ≡ o → ((some_or o UnknownLocal >>= λ u. Ok (u, id)) >>= λ l. each (typed_local types) ids >>= λ ks. Ok (l ∷ ks)) ≡ Ok ls → AreTyped types (id ∷ ids) ls) [
      | Some t ↦ λ has e.
          (elim (each (typed_local types) ids) as (λ r. each (typed_local types) ids ≡ r → (r >>= λ ks. Ok ((t, id) ∷ ks)) ≡ Ok ls → AreTyped types (id ∷ ids) ls) [
            | Ok ms ↦ λ are f. let is : (t, id) ∷ ms ≡ ls = cc in one_typed types id t ids ms ls has (each_typed types ids ms are) is
            | Err x ↦ λ are f. cc
          ]) refl e
      | None ↦ λ has e. cc
    ] refl h

record IsUntyped (types : List (ValType ℕ)) (ids : List ℕ) (e : EmitError) : Type 0 where
  fault : e ≡ UnknownLocal
  id : ℕ
  is_among : among id ids ≡ true
  has_none : slice_get types id ≡ None

untyped_after : (types : List (ValType ℕ)) (id : ℕ) (ids : List ℕ) (e : EmitError) → IsUntyped types ids e → IsUntyped types (id ∷ ids) e
untyped_after types id ids e h = record { fault = h.fault; id = h.id; is_among = ap (λ b. (h.id == id) || b) h.is_among ∙ or-true (h.id == id); has_none = h.has_none }

each_untyped : (types : List (ValType ℕ)) (ids : List ℕ) (e : EmitError) → each (typed_local types) ids ≡ Err e → IsUntyped types ids e
each_untyped types [] e h = cc
each_untyped types (id ∷ ids) e h =
    elim (slice_get types id) as (λ o. slice_get types id ≡ o → ((some_or o UnknownLocal >>= λ u. Ok (u, id)) >>= λ l. each (typed_local types) ids >>= λ ks. Ok (l ∷ ks)) ≡ Err e → IsUntyped types (id ∷ ids) e) [
      | Some t ↦ λ has f.
          (elim (each (typed_local types) ids) as (λ r. each (typed_local types) ids ≡ r → (r >>= λ ks. Ok ((t, id) ∷ ks)) ≡ Err e → IsUntyped types (id ∷ ids) e) [
            | Ok ms ↦ λ are g. cc
            | Err x ↦ λ are g. let is : x ≡ e = cc in untyped_after types id ids e (each_untyped types ids e (are ∙ ap Err is))
          ]) refl f
      | None ↦ λ has f. let is : e ≡ UnknownLocal = cc in record { fault = is; id = id; is_among = ap (λ b. b || among id ids) (eq-eqb id id refl); has_none = has }
    ] refl h

-- the ids that a filter keeps
kept_one : (p : ℕ → Bool) (id k : ℕ) (rest : Bool) (b : Bool) → p k ≡ b → (cond b ((id == k) || (rest && p id)) (rest && p id)) ≡ (((id == k) || rest) && p id)
kept_one p id k rest b keeps =
    elim (id == k) as (λ c. (id == k) ≡ c → cond b (c || (rest && p id)) (rest && p id) ≡ ((c || rest) && p id)) [
      | true ↦ λ e. let is : p id ≡ b = ap p (eqb-true id k e) ∙ keeps in rw is (elim b as (λ b. cond b true (rest && b) ≡ b) [ true ↦ refl | false ↦ and-false rest ])
      | false ↦ λ e. elim b as (λ b. cond b (rest && p id) (rest && p id) ≡ (rest && p id)) [ true ↦ refl | false ↦ refl ]
    ] refl

among_kept : (p : ℕ → Bool) (id : ℕ) (ids : List ℕ) → among id (filter p ids) ≡ (among id ids && p id)
among_kept p id [] = refl
among_kept p id (k ∷ ids) =
    elim (p k) as (λ b. p k ≡ b → among id (cond b (k ∷ filter p ids) (filter p ids)) ≡ (((id == k) || among id ids) && p id)) [
      | true ↦ λ keeps. ap (λ b. (id == k) || b) (among_kept p id ids) ∙ kept_one p id k (among id ids) true keeps
      | false ↦ λ drops. among_kept p id ids ∙ kept_one p id k (among id ids) false drops
    ] refl

apart_kept : (p : ℕ → Bool) (k : ℕ) (ids : List ℕ) → AllByRecursion (λ y. same_id k y ≡ false) ids → AllByRecursion (λ y. same_id k y ≡ false) (filter p ids)
apart_kept p k [] h = tt
apart_kept p k (x ∷ ids) h =
    elim (p x) as (λ b. AllByRecursion (λ y. same_id k y ≡ false) (cond b (x ∷ filter p ids) (filter p ids))) [
      | true ↦ (h.0, apart_kept p k ids h.1)
      | false ↦ apart_kept p k ids h.1
    ]

distinct_kept : (p : ℕ → Bool) (ids : List ℕ) → IsDistinct same_id ids → IsDistinct same_id (filter p ids)
distinct_kept p [] d = d
distinct_kept p (x ∷ ids) d =
    elim (p x) as (λ b. IsDistinct same_id (cond b (x ∷ filter p ids) (filter p ids))) [
      | true ↦ IsDistinct-cons same_id x (filter p ids) (apart_kept p x ids (IsDistinct-head same_id x ids d)) (distinct_kept p ids (IsDistinct-tail same_id x ids d))
      | false ↦ distinct_kept p ids (IsDistinct-tail same_id x ids d)
    ]

-- the keys of a set are distinct
none_among : (k : ℕ) (ks : List ℕ) → AllByRecursion (λ y. same_id k y ≡ false) ks → among k ks ≡ false
none_among k [] h = refl
none_among k (y ∷ ks) h = ap (λ b. b || among k ks) (sym (and-true (k == y)) ∙ h.0) ∙ none_among k ks h.1

among_none : (k : ℕ) (ks : List ℕ) → among k ks ≡ false → AllByRecursion (λ y. same_id k y ≡ false) ks
among_none k [] h = tt
among_none k (y ∷ ks) h =
    elim (k == y) as (λ b. (k == y) ≡ b → (b || among k ks) ≡ false → AllByRecursion (λ z. same_id k z ≡ false) (y ∷ ks)) [
      | true ↦ λ e f. cc
      | false ↦ λ e f. (and-true (k == y) ∙ e, among_none k ks f)
    ] refl h

distinct_apart : (ks : List ℕ) → IsDistinct same_id ks → Apart ks
distinct_apart [] d = tt
distinct_apart (k ∷ ks) d = (none_among k ks (IsDistinct-head same_id k ks d), distinct_apart ks (IsDistinct-tail same_id k ks d))

pub apart_distinct : (ks : List ℕ) → Apart ks → IsDistinct same_id ks
unfolding IsDistinct
apart_distinct [] a = tt
apart_distinct (k ∷ ks) a = (among_none k ks a.0, apart_distinct ks a.1)

pub found_apart : (types : List (ValType ℕ)) (numbers : List (ℕ × ℕ)) (keys : List ℕ) (found : List Local) → IsDistinct same_id keys → unnumbered types numbers keys ≡ Ok found → Apart (ids_of found)
found_apart types numbers keys found unique is =
    let free = λ (id : ℕ). not (is_some (number_in numbers id)) in
    subst Apart (sym (each_typed types (filter free keys) found is).are) (distinct_apart (filter free keys) (distinct_kept free keys unique))

-- neighbours in a sorted list ascend if their ids differ
then_equal : (o p : Ordering) → ordering_then o p ≡ Equal → p ≡ Equal
then_equal Less p h = cc
then_equal Equal p h = h
then_equal Greater p h = cc

less_of : (o : Ordering) → is_lt (ordering_reverse o) ≡ false → (o ≡ Equal → ⊥) → o ≡ Less
less_of Less h k = refl
less_of Equal h k = absurd (k refl)
less_of Greater h k = cc

ascending : (l m : Local) → is_lt (local_order m l) ≡ false → same_id l.1 m.1 ≡ false → local_order l m ≡ Less
ascending l m not_below apart =
    less_of (local_order l m) (sym (ap is_lt (local_order-total.antisymm m l)) ∙ not_below)
    (λ tie.
    let ids : nat_cmp l.1 m.1 ≡ Equal = then_equal (type_order l.0 m.0) (nat_cmp l.1 m.1) tie in
    let same : (l.1 == m.1) ≡ true = sym (unsigned_tied l.1 m.1) ∙ ap is_eq ids in
    let other : (l.1 == m.1) ≡ false = sym (and-true (l.1 == m.1)) ∙ apart in
    cc)

-- the order in which a list is sorted
pub in_order : (l m : Local) (o p : Ordering) → o ≡ type_order l.0 m.0 → p ≡ nat_cmp l.1 m.1 → is_lt (ordering_then o p) ≡ false → is_lt (local_order l m) ≡ false
in_order l m o p types ids h = (λ i. is_lt (ordering_then (sym types i) (sym ids i))) ∙ h

module _ (types : List (ValType ℕ)) (args keys : List ℕ) (numbers : List (ℕ × ℕ)) (arguments : (id : ℕ) → is_some (number_in numbers id) ≡ among id args) where
  abbrev Free : ℕ → Bool
  Free id = not (is_some (number_in numbers id))

  free_used : (id : ℕ) → among id (filter Free keys) ≡ (among id keys && not (among id args))
  free_used id = among_kept Free id keys ∙ ap (λ b. among id keys && not b) (arguments id)

  pub sorted_declared : (found ls : List Local) → Apart (ids_of found) → unnumbered types numbers keys ≡ Ok found → IsPermutation found ls
      → ((k : ℕ) (d : Local) → k + 1 < length ls → is_lt (local_order (get_or ls (k + 1) d) (get_or ls k d)) ≡ false)
      → AreDeclared types args (λ id. among id keys) ls
  sorted_declared found ls unique is moved sorted =
      let each = each_typed types (filter Free keys) found is in
      let ids = IsPermutation-map (λ (l : Local). l.1) found ls moved in
      let apart = IsDistinct-IsPermutation same_id (λ x y. ap (λ b. b && true) (nat_eq_equiv.symm x y)) (ids_of found) (ids_of ls) ids (apart_distinct (ids_of found) unique) in
      record {
        ascend = λ k d within.
            ascending (get_or ls k d) (get_or ls (k + 1) d) (sorted k d within)
            (let two = apart_from_distinct same_id (ids_of ls) k (k + 1) d.1 apart (omega arith) (omega (arith, length-map ls (λ (l : Local). l.1))) in
            ap (λ x. same_id x (get_or ls (k + 1) d).1) (sym (get_or-map (λ (l : Local). l.1) ls k d))
            ∙ (ap (same_id (get_or (ids_of ls) k d.1)) (sym (get_or-map (λ (l : Local). l.1) ls (k + 1) d)) ∙ two));
        are_all = λ id. sym (list_any-IsPermutation (λ y. id == y) (ids_of found) (ids_of ls) ids) ∙ (ap (among id) each.are ∙ free_used id);
        typed = All-permutation (Typed types) found ls moved (All-from_recursion (Typed types) found each.typed);
      }

  both_parts : (a b : Bool) → (a && not b) ≡ true → (a ≡ true) × (b ≡ false)
  both_parts true false h = (refl, refl)
  both_parts _ _ h = cc

  pub unknown_local : (e : EmitError) → unnumbered types numbers keys ≡ Err e → (e ≡ UnknownLocal) × HasUnknown types args (λ id. among id keys)
  unknown_local e is =
      let un = each_untyped types (filter Free keys) e is in
      let parts = both_parts (among un.id keys) (among un.id args) (sym (free_used un.id) ∙ un.is_among) in
      (un.fault, record { id = un.id; is_used = parts.0; is_no_argument = parts.1; has_no_type = un.has_none })

-- ---- the function as a whole

some_place : (xs : List ℕ) (id : ℕ) → is_some (last_place xs id) ≡ among id xs
some_place [] id = refl
some_place (x ∷ xs) id =
    elim (last_place xs id) as (λ o. is_some (option_or (option_map (λ n. n + 1) o) (cond (x == id) (Some 0) None)) ≡ (is_some o || (x == id))) [
      | Some n ↦ refl
      | None ↦ elim (x == id) as (λ b. is_some {T = ℕ} (cond b (Some 0) None) ≡ b) [ true ↦ refl | false ↦ refl ]
    ]
    ∙ (ap (λ b. b || (x == id)) (some_place xs id)
    ∙ (ap (λ b. among id xs || b) (nat_eq_equiv.symm x id)
    ∙ elim (id == x) as (λ b. (among id xs || b) ≡ (b || among id xs)) [
      | true ↦ or-true (among id xs)
      | false ↦ elim (among id xs) as (λ b. (b || false) ≡ b) [ true ↦ refl | false ↦ refl ]
    ]))

-- whether the map has a number for an id says whether it is an argument
pub arguments_are_numbered : (args : List ℕ) (es : List (ℕ × ℕ)) → ((id : ℕ) → number_in es id ≡ option_map saturated (last_place args id)) → (id : ℕ) → is_some (number_in es id) ≡ among id args
arguments_are_numbered args es h id =
    ap is_some (h id)
    ∙ (elim (last_place args id) as (λ o. is_some (option_map saturated o) ≡ is_some o) [ Some n ↦ refl | None ↦ refl ]
    ∙ some_place args id)

saturated_fits : (n : ℕ) → n < 2 ^ 32 → saturated n ≡ n
saturated_fits n h = ap (λ b. cond b n (2 ^ 32 - 1)) (lt-ltb n (2 ^ 32) h)

-- if all positions fit, no number is cut
pub nothing_saturated : (args : List ℕ) (es : List (ℕ × ℕ)) → length args ≤ 2 ^ 32 → ((id : ℕ) → number_in es id ≡ option_map saturated (last_place args id)) → (id : ℕ) → number_in es id ≡ last_place args id
nothing_saturated args es fit h id =
    h id
    ∙ elim (last_place args id) as (λ o. last_place args id ≡ o → option_map saturated o ≡ o) [
      | Some n ↦ λ is. let within = slice_get_within args n id (last_place_get args id n is) in ap Some (saturated_fits n (omega (arith, within)))
      | None ↦ λ is. refl
    ] refl

-- the declarations are those of the runs
pub few_declared : (to : Numbers) (a : ℕ) (locals : List Local) (rs : List (ℕ × ValType ℕ)) (r : Result (List (ℕ × ValType ℕ)) EmitError) → a + length locals ≤ 2 ^ 32 → rs ≡ runs (types_of locals) → declarations to rs ≡ r → declared to a locals ≡ r
few_declared to a locals rs r fit are is =
    ap (λ b. unless b TooLarge >>= λ _. declarations to (runs (types_of locals))) (le-leb (a + length locals) (2 ^ 32) fit)
    ∙ (ap (declarations to) (sym are) ∙ is)
