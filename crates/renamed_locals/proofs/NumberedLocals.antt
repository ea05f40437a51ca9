-- The parameters and the locals that a function declares are its used locals, renamed; and declarations have their types.
use Rattle.std.proofs.Common.{◌≡◌, ℕ, zero, suc, ◌+◌, ◌-◌, ◌<◌, ◌≤◌, ◌==◌, List, [], ◌∷◌, ◌++◌, length, filter, take, slice_get, get_or, Bool, true, false, not, ◌&&◌, ◌||◌, Option, Some, None, Ok, ◌⊎◌, inl, inr, refl, sym, ap, ◌∙◌, arith, eq-eqb}
use Rattle.std.specs.Prelude.{is_some, unwrap_or, nat_le, nat_lt, ◌^◌}
use Rattle.std.specs.List.{AllByRecursion, list_all, range_with_len}
use Rattle.std.specs.Option.{option_map}
use Rattle.std.proofs.lemmas.Bool.{eqb-true, ltb-true, ltb-false}
use Rattle.std.proofs.lemmas.List.Elements.{recursion_from_All}
use Rattle.std.proofs.lemmas.List.Folds.{list_any-append, list_any_at}
use Rattle.std.proofs.lemmas.List.FromFn.{length-range_with_len, get_or-range_with_len}
use Rattle.std.proofs.lemmas.Map.Views.{any-filter_same}
use Rattle.std.proofs.lemmas.Option.{none-some, same_Some, slice_get_within}
use Rattle.std.proofs.Math.Bool.{and-true, or-true}
use Rattle.wasm_types.specs.declared.val_type.HeapType.{HeapType}
use Rattle.wasm_types.specs.declared.val_type.HeapType.TheVariants.{Abstract, Concrete}
use Rattle.wasm_types.specs.declared.val_type.ValType.{ValType}
use Rattle.wasm_types.specs.declared.val_type.ValType.TheVariants.{I32, I64, F32, F64, V128, Ref}
use Rattle.wasm_numbers.specs.Results.{◌>>=◌, unless, each}
use Rattle.wasm_operators.specs.declared.types.Space.TheVariants.{Types}
use Rattle.walrus_ir.specs.Unfolding.{among}
use Rattle.wasm_body.specs.declared.error.EmitError.TheVariants.{TooLarge}
use Rattle.wasm_body.specs.Bytes.{Numbers, numbers_in_32_bits}
use Rattle.wasm_body.specs.LocalNumbers.{Local, types_of, ids_of, AreDeclared, number_of_local, declarations, declaration, runs, spread}
use Rattle.wasm_body.specs.Translation.{translate_heap, translate_value}
use Rattle.wasm_body.proofs.Bytes.Fitting.{fitting_result}
use Rattle.wasm_body.proofs.LocalNumbers.{last_place_get, one_local, runs_maximal}
use Rattle.wasm_body.proofs.Translation.Steps.{bound}
use Rattle.wasm_typing.specs.Contexts.{OperandContext, contains, has_default, initial_locals}
use Rattle.renamed_locals.specs.RenamedLocals.{context_with_locals}
use Rattle.renamed_locals.specs.DeclaredLocals.{parameter_indices, is_written_local, written_number, HaveParameters, WrittenAreRenamed, TypesKeepNumbers, DeclarationsHaveTypes}

-- ---- lists

below_or_not : (a b : ℕ) → (a < b) ⊎ (b ≤ a)
below_or_not a b = elim (nat_lt a b) as (λ t. nat_lt a b ≡ t → (a < b) ⊎ (b ≤ a)) [ true ↦ λ e. inl (ltb-true a b e) | false ↦ λ e. inr (ltb-false a b e) ] refl

get_first : {A : Type 0} (xs ys : List A) (i : ℕ) → i < length xs → slice_get (xs ++ ys) i ≡ slice_get xs i
get_first [] ys i h = absurd (omega arith)
get_first (x ∷ xs) ys zero h = refl
get_first (x ∷ xs) ys (suc i) h = get_first xs ys i (omega arith)

get_after : {A : Type 0} (xs ys : List A) (i j : ℕ) → i ≡ length xs + j → slice_get (xs ++ ys) i ≡ slice_get ys j
get_after [] ys i j e = let same : i ≡ j = omega arith in ap (slice_get ys) same
get_after (x ∷ xs) ys zero j e = absurd (omega arith)
get_after (x ∷ xs) ys (suc i) j e = get_after xs ys i j (omega arith)

pub get_taken : {A : Type 0} (n : ℕ) (xs : List A) (i : ℕ) → i < n → slice_get (take n xs) i ≡ slice_get xs i
get_taken zero xs i h = absurd (omega arith)
get_taken (suc n) [] i h = refl
get_taken (suc n) (x ∷ xs) zero h = refl
get_taken (suc n) (x ∷ xs) (suc i) h = get_taken n xs i (omega arith)

pub get_range : (a n i : ℕ) → i < n → slice_get (range_with_len a n) i ≡ Some (a + i)
get_range a zero i h = absurd (omega arith)
get_range a (suc n) zero h = let same : a ≡ a + 0 = omega arith in ap Some same
get_range a (suc n) (suc i) h = let same : a + 1 + i ≡ a + suc i = omega arith in get_range (a + 1) n i (omega arith) ∙ ap Some same

-- ---- numbers among others

pub above_range : (a n k : ℕ) → a + n ≤ k → contains k (range_with_len a n) ≡ false
above_range a zero k h = refl
above_range a (suc n) k h =
    elim (k == a) as (λ b. (k == a) ≡ b → (b || contains k (range_with_len (a + 1) n)) ≡ false) [
      | true ↦ λ e. let same : k ≡ a = eqb-true k a e in absurd (omega arith)
      | false ↦ λ e. above_range (a + 1) n k (omega arith)
    ] refl

pub in_range : (n k : ℕ) → k < n → contains k (range_with_len 0 n) ≡ true
in_range n k h =
    let long = length-range_with_len 0 n in
    let nth = get_or-range_with_len 0 n k 0 h in
    let at : k ≡ get_or (range_with_len 0 n) k 0 = omega (arith, nth) in
    list_any_at (λ m. k == m) (range_with_len 0 n) k 0 (omega (arith, long)) (eq-eqb k (get_or (range_with_len 0 n) k 0) at)

contains_filtered : (p : ℕ → Bool) (k : ℕ) (ns : List ℕ) → contains k (filter p ns) ≡ (p k && contains k ns)
contains_filtered p k ns = any-filter_same (λ m. k == m) p (p k) (λ m e. ap p (sym (eqb-true k m e))) ns

has_place : (ns : List ℕ) (j k : ℕ) → slice_get ns j ≡ Some k → among k ns ≡ true
has_place [] j k e = absurd (none-some k e)
has_place (n ∷ ns) zero k e = ap (λ b. b || among k ns) (eq-eqb k n (sym (same_Some n k e)))
has_place (n ∷ ns) (suc j) k e = ap (λ b. (k == n) || b) (has_place ns j k e) ∙ or-true (k == n)

-- ---- locals that are initialised at the begin

-- whether a local of this list has a type with a default
abbrev pub defaulted : List (ValType ℕ) → ℕ → Bool
defaulted locals k = unwrap_or (option_map has_default (slice_get locals k)) false

defaults_within : (locals : List (ValType ℕ)) (k : ℕ) → (defaulted locals k && contains k (range_with_len 0 (length locals))) ≡ defaulted locals k
defaults_within locals k =
    elim (slice_get locals k) as (λ o. slice_get locals k ≡ o → (unwrap_or (option_map has_default o) false && contains k (range_with_len 0 (length locals))) ≡ unwrap_or (option_map has_default o) false) [
      | Some t ↦ λ e. ap (λ b. has_default t && b) (in_range (length locals) k (slice_get_within locals k t e)) ∙ and-true (has_default t)
      | None ↦ λ e. refl
    ] refl

pub initial_is : (c : OperandContext) (args : List ℕ) (k : ℕ) → contains k (initial_locals c args) ≡ (contains k args || defaulted c.locals k)
initial_is c args k =
    list_any-append (λ m. k == m) args (filter (λ n. defaulted c.locals n) (range_with_len 0 (length c.locals)))
    ∙ ap (λ b. contains k args || b) (contains_filtered (λ n. defaulted c.locals n) k (range_with_len 0 (length c.locals)) ∙ defaults_within c.locals k)

-- ---- the locals of a function

some_number : (o : Option ℕ) → is_some o ≡ true → o ≡ Some (unwrap_or o 0)
some_number (Some n) h = refl
some_number None h = absurd cc

no_argument : (u a b : Bool) → b ≡ (u && not a) → b ≡ true → a ≡ false
no_argument true true b h is = absurd cc
no_argument true false b h is = refl
no_argument false a b h is = absurd cc

-- the type of a declared local, by its place
type_at_place : (locals : List (ValType ℕ)) (ls : List Local) → AllByRecursion (λ l. slice_get locals l.1 ≡ Some l.0) ls → (j n : ℕ) → slice_get (ids_of ls) j ≡ Some n
    → slice_get (types_of ls) j ≡ slice_get locals n
type_at_place locals [] h j n e = absurd (none-some n e)
type_at_place locals (l ∷ ls) h zero n e = sym h.0 ∙ ap (slice_get locals) (same_Some l.1 n e)
type_at_place locals (l ∷ ls) h (suc j) n e = type_at_place locals ls h.1 j n e

module _ (c : OperandContext) (args : List ℕ) (parameters : List (ValType ℕ)) (have : HaveParameters c args parameters) (used : ℕ → Bool) (others : List Local)
    (are : AreDeclared c.locals args used others) where
  abbrev ids : List ℕ
  ids = ids_of others

  abbrev f : ℕ → ℕ
  f n = written_number args others n

  abbrev IsUsed : ℕ → Type 0
  IsUsed n = is_written_local args others n ≡ true

  abbrev new : List (ValType ℕ)
  new = parameters ++ types_of others

  abbrev first : List ℕ
  first = parameter_indices (length parameters)

  has : (n : ℕ) → IsUsed n → number_of_local args ids n ≡ Some (f n)
  has n h = some_number (number_of_local args ids n) h

  -- A written local is an argument at this place, or it is declared at a place after them.
  abbrev IsOneOf : ℕ → ℕ → Type 0
  IsOneOf n k = (slice_get args k ≡ Some n) ⊎ ((j : ℕ) × (k ≡ length args + j) × (slice_get ids j ≡ Some n))

  one_of : (n k : ℕ) → slice_get (args ++ ids) k ≡ Some n → IsOneOf n k
  one_of n k e =
      elim (below_or_not k (length args)) [
        | inl less ↦ inl (sym (get_first args ids k less) ∙ e)
        | inr more ↦
            let after : k ≡ length args + (k - length args) = omega (arith, more) in
            inr (k - length args, after, sym (get_after args ids k (k - length args) after) ∙ e)
      ]

  written : (n : ℕ) → IsUsed n → IsOneOf n (f n)
  written n h = one_of n (f n) (last_place_get (args ++ ids) n (f n) (has n h))

  apart : (n k : ℕ) → IsUsed n → IsUsed k → f n ≡ f k → n ≡ k
  apart n k h i e = one_local args ids n k (f n) (has n h) (has k i ∙ ap Some (sym e))

  type_of_one : (n k : ℕ) → IsOneOf n k → slice_get new k ≡ slice_get c.locals n
  type_of_one n k (inl h) =
      let within = slice_get_within args k n h in
      let count = have.count in
      get_first parameters (types_of others) k (omega (arith, within, count)) ∙ sym (have.types k n h)
  type_of_one n k (inr h) =
      let place = h.1 in
      let count = have.count in
      get_after parameters (types_of others) k h.0 (omega (arith, place, count)) ∙ type_at_place c.locals others (recursion_from_All _ others are.typed) h.0 n h.2

  types : (n : ℕ) → IsUsed n → slice_get new (f n) ≡ slice_get c.locals n
  types n h = type_of_one n (f n) (written n h)

  argument_is : (n k : ℕ) → IsOneOf n k → contains n args ≡ contains k first
  argument_is n k (inl h) =
      let within = slice_get_within args k n h in
      let count = have.count in
      has_place args k n h ∙ sym (in_range (length parameters) k (omega (arith, within, count)))
  argument_is n k (inr h) =
      let place = h.1 in
      let count = have.count in
      no_argument (used n) (among n args) (among n ids) (are.are_all n) (has_place ids h.0 n h.2) ∙ sym (above_range 0 (length parameters) k (omega (arith, place, count)))

  same : (n : ℕ) → IsUsed n → contains n (initial_locals c args) ≡ contains (f n) (initial_locals (context_with_locals c new) first)
  same n h =
      initial_is c args n
      ∙ (ap (λ b. b || defaulted c.locals n) (argument_is n (f n) (written n h))
      ∙ ap (λ o. contains (f n) first || unwrap_or (option_map has_default o) false) (sym (types n h)))
      ∙ sym (initial_is (context_with_locals c new) first (f n))

pub written_are_renamed : WrittenAreRenamed
written_are_renamed c args parameters have used others are =
    record { apart = apart c args parameters have used others are; types = types c args parameters have used others are; same = same c args parameters have used others are }

-- ---- declarations

module _ (to : Numbers) (keeps : TypesKeepNumbers to) where
  heap_kept : (h g : HeapType ℕ) → translate_heap (numbers_in_32_bits to).number_of h ≡ Ok g → g ≡ h
  heap_kept (Abstract a) g e = let same : Abstract a ≡ g = cc e in sym same
  heap_kept (Concrete id) g e =
      let n = bound ((numbers_in_32_bits to).number_of Types id) (λ n. Ok (Concrete n)) g e in
      let made : Concrete n.0 ≡ g = cc n.2 in
      sym made ∙ ap (λ (m : ℕ). Concrete m) (keeps id n.0 (fitting_result (to.number_of Types id) n.0 n.1).is_result)

  pub value_kept : (t u : ValType ℕ) → translate_value (numbers_in_32_bits to).number_of t ≡ Ok u → u ≡ t
  value_kept I32 u e = let same : I32 ≡ u = cc e in sym same
  value_kept I64 u e = let same : I64 ≡ u = cc e in sym same
  value_kept F32 u e = let same : F32 ≡ u = cc e in sym same
  value_kept F64 u e = let same : F64 ≡ u = cc e in sym same
  value_kept V128 u e = let same : V128 ≡ u = cc e in sym same
  value_kept (Ref r) u e =
      let of : HeapType ℕ → ValType ℕ = λ h. Ref (record { nullable = r.nullable; heap_type = h }) in
      let h = bound (translate_heap (numbers_in_32_bits to).number_of r.heap_type) (λ h. Ok (of h)) u e in
      let made : of h.0 ≡ u = cc h.2 in
      sym made ∙ ap of (heap_kept r.heap_type h.0 h.1)

  runs_kept : (rs ds : List (ℕ × ValType ℕ)) → each (declaration to) rs ≡ Ok ds → ds ≡ rs
  runs_kept [] ds e = let same : [] ≡ ds = cc e in sym same
  runs_kept (r ∷ rs) ds e =
      let first = bound (declaration to r) (λ d. each (declaration to) rs >>= λ more. Ok (d ∷ more)) ds e in
      let rest = bound (each (declaration to) rs) (λ more. Ok (first.0 ∷ more)) ds first.2 in
      let made : first.0 ∷ rest.0 ≡ ds = cc rest.2 in
      let type = bound (translate_value (numbers_in_32_bits to).number_of r.1) (λ t. Ok (r.0, t)) first.0 first.1 in
      let one : (r.0, type.0) ≡ first.0 = cc type.2 in
      let same : first.0 ≡ r = sym one ∙ ap (λ (t : ValType ℕ). (r.0, t)) (value_kept r.1 type.0 type.1) in
      sym made ∙ (λ i. same i ∷ runs_kept rs rest.0 rest.1 i)

pub declarations_have_types : DeclarationsHaveTypes
declarations_have_types to keeps arguments others ds e =
    let rs = runs (types_of others) in
    let few = bound (unless (nat_le (arguments + length others) (2 ^ 32)) TooLarge) (λ u. declarations to rs) ds e in
    let counted = bound (unless (nat_lt (length rs) (2 ^ 32) && list_all (λ (run : ℕ × ValType ℕ). nat_lt run.0 (2 ^ 32)) rs) TooLarge) (λ u. each (declaration to) rs) ds few.2 in
    ap spread (runs_kept to keeps rs ds counted.2) ∙ (runs_maximal (types_of others)).whole
