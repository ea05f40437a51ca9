-- Whether definitions are valid, where no group names a type after its last: whether each is a subtype of its declared supertype.
use Rattle.std.proofs.Common.{◌≡◌, Bor, get_or, ℕ, zero, suc, ◌+◌, ◌<◌, ◌≤◌, List, [], ◌∷◌, ◌++◌, length, drop, Bool, true, false, ◌&&◌, Option, Some, None, refl, sym, ap, ◌∙◌, arith}
use Rattle.std.specs.Prelude.{map, zip, not, option_map, slice_get}
use Rattle.std.specs.List.{list_all, flat_map}
use Rattle.std.specs.Option.{is_some, IfSome, option_copied}
use Rattle.std.proofs.Math.Dec.{ltb}
use Rattle.std.proofs.Math.Bool.{and_assoc}
use Rattle.std.proofs.lemmas.Bool.{and_parts, ltb-true, ltb-false}
use Rattle.std.proofs.lemmas.List.{length-map}
use Rattle.std.proofs.lemmas.Option.{slice_get-map, slice_get_read, slice_get_past}
use Rattle.std.proofs.lemmas.Slice.Zip.{firsts-zip}
use Rattle.wasm_typing.specs.Contexts.{CompositeType, DefinedType, OperandContext}
use Rattle.wasm_typing.specs.Matching.{holds_of}
use Rattle.wasm_typing.specs.RecursiveTypes.{DeclaredType, Group, defined}
use Rattle.wasm_context.specs.declared.definitions.Definitions.{Definitions}
use Rattle.wasm_context.specs.declared.types.DefinedType as code
use Rattle.wasm_context.specs.Contexts.{composite_in, defined_of}
use Rattle.wasm_context.specs.Declarations.{supertype_within, declared_within, closed_from, firsts_of}
use Rattle.wasm_context.specs.Definitions.{IsDefining}
use Rattle.wasm_context.specs.ValidTypes.{composite_within, is_valid_supertype, are_valid_definitions, are_valid_groups}
use Rattle.wasm_context.proofs.Placing.{types_are, length-flat_is}

-- ---- the test of all types, one after the other

abbrev pub flat : List Group → List DeclaredType
flat gs = flat_map (λ (g : Group). g) gs

module _ (c : OperandContext) (declared : List DeclaredType) where
  abbrev pub is_subtype : (own : ℕ) → DeclaredType → Bool
  is_subtype own t = is_valid_supertype c declared own t.composite t.supertype

  -- types, the first of which has this index
  abbrev pub are_subtypes : (own : ℕ) → List DeclaredType → Bool
  are_subtypes own [] = true
  are_subtypes own (t ∷ ts) = is_subtype own t && are_subtypes (own + 1) ts

  one_group : (end own : ℕ) (ts : List DeclaredType) → list_all (declared_within end) ts ≡ true → are_valid_definitions c declared end own ts ≡ are_subtypes own ts
  one_group end own [] below = refl
  one_group end own (t ∷ ts) below =
      let all = and_parts (declared_within end t) (list_all (declared_within end) ts) below in
      let here = and_parts (supertype_within end t.supertype) (composite_within end t.composite) all.0 in
      λ i. (here.1 i && is_subtype own t) && one_group end (own + 1) ts all.1 i

  are_subtypes-append : (own : ℕ) (ts us : List DeclaredType) → are_subtypes own (ts ++ us) ≡ (are_subtypes own ts && are_subtypes (own + length ts) us)
  are_subtypes-append own [] us = ap (λ n. are_subtypes n us) (omega arith)
  are_subtypes-append own (t ∷ ts) us =
      let next : own + 1 + length ts ≡ own + length (t ∷ ts) = omega arith in
      ap (λ b. is_subtype own t && b) (are_subtypes-append (own + 1) ts us ∙ ap (λ n. are_subtypes (own + 1) ts && are_subtypes n us) next)
      ∙ sym (and_assoc (is_subtype own t) (are_subtypes (own + 1) ts) (are_subtypes (own + length (t ∷ ts)) us))

  pub all_groups : (b : ℕ) (gs : List Group) → closed_from b gs ≡ true → are_valid_groups c declared b gs ≡ are_subtypes b (flat gs)
  all_groups b [] closed = refl
  all_groups b (g ∷ gs) closed =
      let both = and_parts (list_all (declared_within (b + length g)) g) (closed_from (b + length g) gs) closed in
      (λ i. one_group (b + length g) b g both.0 i && all_groups (b + length g) gs both.1 i)
      ∙ sym (are_subtypes-append b g (flat gs))

  pub next_subtype : (own k : ℕ) (ts : List DeclaredType) → k < length ts
      → are_subtypes own (drop k ts) ≡ (holds_of (is_subtype own) (slice_get ts k) && are_subtypes (own + 1) (drop (k + 1) ts))
  next_subtype own k [] h = absurd (omega arith)
  next_subtype own zero (t ∷ ts) h = refl
  next_subtype own (suc k) (t ∷ ts) h =
      let next : suc (k + 1) ≡ suc k + 1 = omega arith in
      next_subtype own k ts (omega arith) ∙ ap (λ n. holds_of (is_subtype own) (slice_get ts k) && are_subtypes (own + 1) (drop n (t ∷ ts))) next

  pub no_subtypes : (own k : ℕ) (ts : List DeclaredType) → length ts ≤ k → are_subtypes own (drop k ts) ≡ true
  no_subtypes own zero [] h = refl
  no_subtypes own (suc k) [] h = refl
  no_subtypes own zero (t ∷ ts) h = absurd (omega arith)
  no_subtypes own (suc k) (t ∷ ts) h = no_subtypes own k ts (omega arith)

-- ---- the types that the builder has

abbrev Parts : Type 0
Parts = CompositeType × Option ℕ

abbrev pub parts_of : DeclaredType → Parts
parts_of t = (t.composite, t.supertype)

abbrev parts_in : DefinedType → Parts
parts_in t = (t.composite, t.supertype)

abbrev pub parts_here : code.DefinedType → Parts
parts_here t = (composite_in t.composite, t.supertype)

parts_of_code : (ts : List code.DefinedType) → map parts_in (map defined_of ts) ≡ map parts_here ts
parts_of_code [] = refl
parts_of_code (t ∷ ts) = ap (λ l. parts_here t ∷ l) (parts_of_code ts)

parts_defined : (ps : List (DeclaredType × ℕ)) → map parts_in (map defined ps) ≡ map parts_of (map (λ (p : DeclaredType × ℕ). p.0) ps)
parts_defined [] = refl
parts_defined (p ∷ ps) = ap (λ l. parts_of p.0 ∷ l) (parts_defined ps)

module _ (d : Definitions) (gs : List Group) (is : IsDefining d gs) where
  parts_are : map parts_here d.context.types.items ≡ map parts_of (flat gs)
  parts_are =
      sym (parts_of_code d.context.types.items) ∙ ap (map parts_in) (types_are d gs is) ∙ parts_defined (zip (flat gs) (firsts_of gs))
      ∙ ap (map parts_of) (firsts-zip (flat gs) (firsts_of gs) (sym (length-flat_is gs)))

  pub length_is : length (flat gs) ≡ length d.context.types.items
  length_is = sym (length-map (flat gs) parts_of) ∙ ap length (sym parts_are) ∙ length-map d.context.types.items parts_here

  pub parts_at : (n : ℕ) → option_map parts_here (slice_get d.context.types.items n) ≡ option_map parts_of (slice_get (flat gs) n)
  parts_at n = sym (slice_get-map parts_here d.context.types.items n) ∙ ap (λ l. slice_get l n) parts_are ∙ slice_get-map parts_of (flat gs) n

  pub final_at : (n : ℕ) → slice_get d.finals.items n ≡ option_map (λ (t : DeclaredType). t.final) (slice_get (flat gs) n)
  final_at n = ap (λ l. slice_get l n) is.finals_are ∙ slice_get-map (λ (t : DeclaredType). t.final) (flat gs) n

-- ---- items of slices that are read

pub read_there : {X : Type 0} (xs ys : List X) (i : ℕ) (x : X) → xs ≡ ys → true ≡ ltb i (length xs) → x ≡ get_or xs i x → slice_get ys i ≡ Some x
read_there xs ys i x same low here = ap (λ l. slice_get l i) (sym same) ∙ slice_get_read xs (length xs) i x refl (ltb-true i (length xs) (sym low)) here

pub read_none : {X : Type 0} (xs ys : List X) (i : ℕ) → xs ≡ ys → false ≡ ltb i (length xs) → slice_get ys i ≡ None
read_none xs ys i same high = ap (λ l. slice_get l i) (sym same) ∙ slice_get_past xs i (ltb-false i (length xs) (sym high))

pub read_copied : {X : Type 0} (xs ys : List X) (i : ℕ) (r : Option (Bor X)) → xs ≡ ys → is_some r ≡ ltb i (length xs) → IfSome r (λ x. x.now ≡ get_or xs i x.now)
    → slice_get ys i ≡ option_copied r
read_copied xs ys i None same found here = read_none xs ys i same found
read_copied xs ys i (Some x) same found here = read_there xs ys i x.now same found here

-- ---- one type

pub none_holds : {X Y : Type 0} (f : X → Y) (test : X → Bool) (o : Option X) → None ≡ option_map f o → holds_of test o ≡ false
none_holds f test None h = refl
none_holds f test (Some x) h = absurd cc

pub one_holds : (test : Parts → Bool) (o : Option DeclaredType) (t : code.DefinedType) → Some (parts_here t) ≡ option_map parts_of o
    → holds_of (λ (s : DeclaredType). test (parts_of s)) o ≡ test (parts_here t)
one_holds test None t h = absurd cc
one_holds test (Some s) t h = let e : parts_here t ≡ parts_of s = cc h in ap test (sym e)

pub extended_holds : (test : CompositeType → Bool) (o : Option DeclaredType) (final : Bool) (t : code.DefinedType)
    → Some final ≡ option_map (λ (s : DeclaredType). s.final) o → Some (parts_here t) ≡ option_map parts_of o
    → holds_of (λ (s : DeclaredType). not s.final && test s.composite) o ≡ (not final && test (composite_in t.composite))
extended_holds test None final t f h = absurd cc
extended_holds test (Some s) final t f h =
    let a : final ≡ s.final = cc f in
    let e : parts_here t ≡ parts_of s = cc h in
    λ i. not (sym a i) && test ((sym e i).0)
