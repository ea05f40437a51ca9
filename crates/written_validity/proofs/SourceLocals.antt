-- The locals of the source by their ids are its locals by their indices, renamed; and names with indices for ids become those with ids again.
use Rattle.std.proofs.Common.{◌≡◌, ◌+◌, ◌<◌, ◌≤◌, ◌==◌, ◌||◌, ℕ, zero, suc, List, [], ◌∷◌, length, map, take, slice_get, true, false, Some, Result, Ok, Err, refl, sym, ap, ◌∙◌, subst, arith, eq-eqb}
use Rattle.std.specs.Prelude.{IsOk, is_ok, option_map, unwrap_or}
use Rattle.std.specs.List.{AllByRecursion, range_with_len}
use Rattle.std.specs.Result.{result_unwrap_or}
use Rattle.std.proofs.lemmas.Bool.{eqb-true}
use Rattle.std.proofs.lemmas.List.{length-take-le}
use Rattle.std.proofs.lemmas.List.FromFn.{length-map-range_with_len}
use Rattle.std.proofs.lemmas.Option.{same_Some, slice_get_within, slice_get-map}
use Rattle.wasm_types.specs.declared.val_type.ValType.{ValType}
use Rattle.walrus_ir.specs.Types.{Signature}
use Rattle.wasm_operators.specs.Operations.{Immediate, local}
use Rattle.wasm_body.specs.LocalNumbers.{locals_among}
use Rattle.wasm_body.specs.Naming.{Environment}
use Rattle.wasm_body.proofs.Bytes.OtherLocals.{IsOfLocal}
use Rattle.wasm_typing.specs.Contexts.{OperandContext, contains, has_default, initial_locals}
use Rattle.renamed_locals.specs.RenamedLocals.{renamed_immediate, context_with_locals, Renames}
use Rattle.renamed_locals.specs.DeclaredLocals.{parameter_indices, HaveParameters}
use Rattle.renamed_locals.proofs.NumberedLocals.{get_taken, get_range, initial_is, defaulted}
use Rattle.written_validity.specs.SharedModules.{HasIndices}
use Rattle.written_validity.specs.WrittenCode.{id_of_local}

ok_is : {E : Type 0} (r : Result ℕ E) → IsOk r → r ≡ Ok (result_unwrap_or r 0)
ok_is (Ok x) h = refl
ok_is (Err e) h = absurd cc

eqb_alike : (a b c d : ℕ) → (a ≡ b → c ≡ d) → (c ≡ d → a ≡ b) → (a == b) ≡ (c == d)
eqb_alike a b c d to from =
    elim (a == b) as (λ t. (a == b) ≡ t → t ≡ (c == d)) [
      | true ↦ λ e. sym (eq-eqb c d (to (eqb-true a b e)))
      | false ↦ λ e. elim (c == d) as (λ u. (c == d) ≡ u → false ≡ u) [ true ↦ λ k. sym e ∙ eq-eqb a b (from (eqb-true c d k)) | false ↦ λ k. refl ] refl
    ] refl

module _ (env : Environment) (index_of : ℕ → ℕ) (own : HasIndices env index_of) where
  abbrev id : ℕ → ℕ
  id n = id_of_local env n

  abbrev pub HasId : ℕ → Type 0
  HasId n = is_ok (env.local_of n) ≡ true

  id_is : (n : ℕ) → HasId n → env.local_of n ≡ Ok (id n)
  id_is n h = ok_is (env.local_of n) h

  index_is : (n : ℕ) → HasId n → index_of (id n) ≡ n
  index_is n h = own n (id n) (id_is n h)

  apart : (n k : ℕ) → HasId n → HasId k → id n ≡ id k → n ≡ k
  apart n k h i e = sym (index_is n h) ∙ ap index_of e ∙ index_is k i

  -- ---- names

  of_local : (x : ℕ) → IsOfLocal env x → env.local_of (index_of x) ≡ Ok x
  of_local x h = subst (λ n. env.local_of n ≡ Ok x) (sym (own h.0 x h.1)) h.1

  pub names_have_ids : (is : List (Immediate ℕ Signature)) → AllByRecursion (IsOfLocal env) (locals_among is) → AllByRecursion HasId (locals_among (map (renamed_immediate index_of) is))
  names_have_ids [] h = tt
  names_have_ids (local x ∷ is) h = (ap is_ok (of_local x h.0), names_have_ids is h.1)
  names_have_ids (i ∷ is) h = names_have_ids is h

  pub named_back : (is : List (Immediate ℕ Signature)) → AllByRecursion (IsOfLocal env) (locals_among is) → map (renamed_immediate id) (map (renamed_immediate index_of) is) ≡ is
  named_back [] h = refl
  named_back (local x ∷ is) h =
      let same : id (index_of x) ≡ x = ap (λ r. result_unwrap_or r 0) (of_local x h.0) in
      λ k. local (same k) ∷ named_back is h.1 k
  named_back (i ∷ is) h = ap (λ js. i ∷ js) (named_back is h)

  -- ---- types and parameters

  contains_ids : (ns : List ℕ) → AllByRecursion HasId ns → (n : ℕ) → HasId n → contains n ns ≡ contains (id n) (map id ns)
  contains_ids [] all n h = refl
  contains_ids (m ∷ ns) all n h = λ k. eqb_alike n m (id n) (id m) (ap id) (apart n m h all.0) k || contains_ids ns all.1 n h k

  range_has_ids : (a k : ℕ) → ((n : ℕ) → n < a + k → HasId n) → AllByRecursion HasId (range_with_len a k)
  range_has_ids a zero given = tt
  range_has_ids a (suc k) given = (given a (omega arith), range_has_ids (a + 1) k (λ n h. given n (omega arith)))

  module _ (c : OperandContext) (types : List (ValType ℕ)) (typed : (n x : ℕ) → env.local_of n ≡ Ok x → slice_get types x ≡ slice_get c.locals n)
      (parameters : ℕ) (within : parameters ≤ length c.locals) (have_ids : (n : ℕ) → n < parameters → HasId n) where
    abbrev pub by_ids : OperandContext
    by_ids = context_with_locals c types

    abbrev pub args : List ℕ
    args = map id (parameter_indices parameters)

    same_type : (n : ℕ) → HasId n → slice_get types (id n) ≡ slice_get c.locals n
    same_type n h = typed n (id n) (id_is n h)

    same_initial : (n : ℕ) → HasId n → contains n (initial_locals c (parameter_indices parameters)) ≡ contains (id n) (initial_locals by_ids args)
    same_initial n h =
        initial_is c (parameter_indices parameters) n
        ∙ (ap (λ b. b || defaulted c.locals n) (contains_ids (parameter_indices parameters) (range_has_ids 0 parameters (λ k less. have_ids k (omega (arith, less)))) n h)
        ∙ ap (λ o. contains (id n) args || unwrap_or (option_map has_default o) false) (sym (same_type n h)))
        ∙ sym (initial_is by_ids args (id n))

    pub ids_rename : Renames (λ n. is_ok (env.local_of n)) id c.locals types (initial_locals c (parameter_indices parameters)) (initial_locals by_ids args)
    ids_rename = record { apart = apart; types = same_type; same = same_initial }

    many : length args ≡ parameters
    many = length-map-range_with_len id 0 parameters

    parameter_type : (n x : ℕ) → slice_get args n ≡ Some x → slice_get types x ≡ slice_get (take parameters c.locals) n
    parameter_type n x e =
        let short = slice_get_within args n x e in
        let count = many in
        let less : n < parameters = omega (arith, short, count) in
        let at : 0 + n ≡ n = omega arith in
        let named : id n ≡ x = ap id (sym at) ∙ same_Some (id (0 + n)) x (sym (ap (option_map id) (get_range 0 parameters n less)) ∙ sym (slice_get-map id (parameter_indices parameters) n) ∙ e) in
        ap (slice_get types) (sym named) ∙ same_type n (have_ids n less) ∙ sym (get_taken parameters c.locals n less)

    pub have_parameters : HaveParameters by_ids args (take parameters c.locals)
    have_parameters = record { count = many ∙ sym (length-take-le parameters c.locals within); types = parameter_type }
