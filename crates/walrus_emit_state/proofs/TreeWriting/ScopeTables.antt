-- The table of the open sequences: their levels, and the target of a slot according to its level.
use Rattle.std.specs.Prelude.{◌≡◌, ℕ, suc, ◌-◌, ◌<◌, ◌==◌, List, [], ◌∷◌, ◌++◌, length, map, reverse, take, drop, slice_get, true, false, Option, None, Some, if◌then◌else◌, slice_index_or, unwrap_or, Err}
use Rattle.std.specs.Option.{option_flatten}
use Rattle.std.proofs.Common.{refl, ap, sym, subst, ◌∙◌, arith}
use Rattle.std.proofs.lemmas.List.{length-reverse, length-map, map-append, reverse-append, reverse-reverse, take-append-drop}
use Rattle.std.proofs.Math.Seq.{take-append_seam}
use Rattle.wasm_body.specs.declared.error.EmitError.TheVariants.{BranchOutside}
use Rattle.wasm_numbers.specs.Results.{◌>>=◌}
use Rattle.wasm_body.specs.Bytes.{in_32_bits}
use Rattle.wasm_body.specs.FunctionTree.{Target, Depth, Outside}
use Rattle.wasm_body.specs.FlatText.{depth_of}
use Rattle.wasm_body.specs.TreeOfFunction.{deeper, target_in}
use Rattle.walrus_emit_state.specs.declared.closing.SequenceScope.{SequenceScope}
use Rattle.walrus_emit_state.specs.declared.open_scopes.EnteredScope.{EnteredScope}
use Rattle.walrus_emit_state.specs.TreeWriting.Closers.{places_of}
use Rattle.walrus_emit_state.specs.TreeWriting.ScopeLists.{ScopeLists, BeginsScope}
use Rattle.walrus_emit_state.specs.TreeWriting.ScopeTables.{level_in, opened_in, AreKnown, IsScopeTable, depth_in}

-- ---- the target of a slot, from its level and the number of open sequences

abbrev pub target_at : ℕ → Option ℕ → Target
target_at n None = Outside
target_at n (Some level) = Depth (n - level - 1)

abbrev IsBelow : ℕ → Option ℕ → Type 0
IsBelow n None = Unit {0}
IsBelow n (Some level) = level < n

weaker : (n : ℕ) (o : Option ℕ) → IsBelow n o → IsBelow (suc n) o
weaker n None h = tt
weaker n (Some level) h = omega arith

level_below : (around : List ℕ) (place : ℕ) → IsBelow (length around) (level_in around place)
level_below [] place = tt
level_below (p ∷ ps) place =
    elim (place == p) as (λ b. IsBelow (suc (length ps)) (if b then Some (length ps) else level_in ps place)) [
      | true ↦ omega arith
      | false ↦ weaker (length ps) (level_in ps place) (level_below ps place)
    ]

one_deeper : (n : ℕ) (o : Option ℕ) → IsBelow n o → deeper (target_at n o) ≡ target_at (suc n) o
one_deeper n None h = refl
one_deeper n (Some level) h = let e : suc (n - level - 1) ≡ suc n - level - 1 = omega arith in ap Depth e

pub target_by_level : (around : List ℕ) (place : ℕ)
    → target_in around place ≡ target_at (length around) (level_in around place)
target_by_level [] place = refl
target_by_level (p ∷ ps) place =
    let rest = ap deeper (target_by_level ps place) ∙ one_deeper (length ps) (level_in ps place) (level_below ps place) in
    let zero_is : 0 ≡ suc (length ps) - length ps - 1 = omega arith in
    elim (place == p) as
    (λ b. (if b then Depth 0 else deeper (target_in ps place))
    ≡ target_at (suc (length ps)) (if b then Some (length ps) else level_in ps place))
    [ true ↦ ap Depth zero_is | false ↦ rest ]

-- ---- the open sequences

pub places_length : (ss : List SequenceScope) → length (places_of ss) ≡ length ss
places_length [] = refl
places_length (s ∷ ss) = ap suc (places_length ss)

pub opened_length : (es : List EnteredScope) → length (places_of (opened_in es)) ≡ length es
opened_length es =
    places_length (opened_in es) ∙ length-reverse (map (λ (e : EnteredScope). e.scope) es)
    ∙ length-map es (λ (e : EnteredScope). e.scope)

-- ---- the depth of a slot

pub flattened : (o : Option (Option ℕ)) → option_flatten o ≡ unwrap_or o None
flattened None = refl
flattened (Some level) = refl

pub depth_found : (levels : List (Option ℕ)) (coming : List SequenceScope) (es : List EnteredScope) (place level : ℕ)
    → IsScopeTable levels coming es → slice_index_or levels place None ≡ Some level
    → depth_in (places_of (opened_in es)) place ≡ in_32_bits (length es - level - 1)
depth_found levels coming es place level h e =
    let around = places_of (opened_in es) in
    let is : target_in around place ≡ target_at (length es) (Some level) =
    target_by_level around place
    ∙ ap (target_at (length around)) (sym (h.levels_are place) ∙ e)
    ∙ ap (λ n. target_at n (Some level)) (opened_length es) in
    ap (λ t. depth_of t >>= in_32_bits) is

pub depth_missing : (levels : List (Option ℕ)) (coming : List SequenceScope) (es : List EnteredScope) (place : ℕ)
    → IsScopeTable levels coming es → slice_index_or levels place None ≡ None
    → depth_in (places_of (opened_in es)) place ≡ Err BranchOutside
depth_missing levels coming es place h e =
    let around = places_of (opened_in es) in
    let is : target_in around place ≡ Outside =
    target_by_level around place ∙ ap (target_at (length around)) (sym (h.levels_are place) ∙ e) in
    ap (λ t. depth_of t >>= in_32_bits) is

-- ---- the lists that contracts see

pub opened_more : (es : List EnteredScope) (e : EnteredScope) → opened_in (es ++ e ∷ []) ≡ e.scope ∷ opened_in es
opened_more es e =
    let scope : EnteredScope → SequenceScope = λ (x : EnteredScope). x.scope in
    ap (λ (ss : List SequenceScope). reverse ss) (map-append scope es (e ∷ []))
    ∙ reverse-append (map scope es) (e.scope ∷ [])

pub begins : (levels new_levels : List (Option ℕ)) (coming new_coming : List SequenceScope)
    (entered new_entered : List EnteredScope) (e : EnteredScope) (old : ScopeLists)
    → record { count = length levels; coming = reverse coming; open_scopes = opened_in entered } ≡ old
    → length new_levels ≡ length levels → coming ≡ new_coming ++ e.scope ∷ [] → new_entered ≡ entered ++ e ∷ []
    → BeginsScope old (record { count = length new_levels; coming = reverse new_coming; open_scopes = opened_in new_entered })
begins levels new_levels coming new_coming entered new_entered e old view many popped pushed =
    let next = reverse-append new_coming (e.scope ∷ []) in
    let more = opened_more entered e in record {
      scope = e.scope;
      rest = reverse new_coming;
      was_next =
          sym (ap (λ (v : ScopeLists). v.coming) view) ∙ ap (λ (ss : List SequenceScope). reverse ss) popped ∙ next;
      is_open = λ i. record {
        count = (many ∙ ap (λ (v : ScopeLists). v.count) view) i;
        coming = reverse new_coming;
        open_scopes = (ap opened_in pushed ∙ more ∙ ap (λ (v : ScopeLists). e.scope ∷ v.open_scopes) view) i;
      };
    }

last_split : (es : List EnteredScope) (e : EnteredScope) → slice_get es (length es - 1) ≡ Some e
    → (front : List EnteredScope) × (es ≡ front ++ e ∷ [])
last_split [] e h = absurd (cc)
last_split (x ∷ []) e h = ([], cc)
last_split (x ∷ y ∷ ys) e h =
    let index : length (x ∷ y ∷ ys) - 1 ≡ suc (length (y ∷ ys) - 1) = omega arith in
    let inner : slice_get (y ∷ ys) (length (y ∷ ys) - 1) ≡ Some e =
    ap (λ n. slice_get (x ∷ y ∷ ys) n) (sym index) ∙ h in
    let rest = last_split (y ∷ ys) e inner in
    (x ∷ rest.0, ap (λ (zs : List EnteredScope). x ∷ zs) rest.1)

pub innermost_is : (es : List EnteredScope) (e : EnteredScope) → slice_get es (length es - 1) ≡ Some e
    → (rest : List SequenceScope) × (opened_in es ≡ e.scope ∷ rest)
innermost_is es e h =
    let split = last_split es e h in
    (opened_in split.0, ap opened_in split.1 ∙ opened_more split.0 e)

known_after : (n : ℕ) (xs ys : List SequenceScope) → AreKnown n (xs ++ ys) → AreKnown n ys
known_after n [] ys h = h
known_after n (x ∷ xs) ys h = known_after n xs ys h.1

pub known_first : (n count : ℕ) (xs : List SequenceScope) → AreKnown n (reverse xs) → AreKnown n (reverse (take count xs))
known_first n count xs h =
    let halves = ap (λ (ss : List SequenceScope). reverse ss) (sym (take-append-drop count xs))
    ∙ reverse-append (take count xs) (drop count xs) in
    known_after n (reverse (drop count xs)) (reverse (take count xs)) (subst (AreKnown n) halves h)

pub kept_last : (count : ℕ) (xs more rest : List SequenceScope) → reverse xs ≡ more ++ rest → length rest ≡ count
    → reverse (take count xs) ≡ rest
kept_last count xs more rest e many =
    let turned : xs ≡ reverse rest ++ reverse more =
    sym (reverse-reverse xs) ∙ ap (λ (ss : List SequenceScope). reverse ss) e ∙ reverse-append more rest in
    let length_is : count ≡ length (reverse rest) = sym many ∙ sym (length-reverse rest) in
    let first : take count xs ≡ reverse rest =
    ap (take count) turned ∙ ap (λ n. take n (reverse rest ++ reverse more)) length_is
    ∙ take-append_seam (reverse rest) (reverse more) in
    ap (λ (ss : List SequenceScope). reverse ss) first ∙ reverse-reverse rest
