-- The locals of bodies in the demo module: the used ones are in the module, can be declared, and have numbers.
use Rattle.std.specs.Prelude.{◌≡◌, ◌⊎◌, ◌≤◌, ◌<◌, ◌+◌, ◌^◌, ◌==◌, ℕ, zero, suc, List, [], ◌∷◌, ◌++◌, length, map, Bool, true, false, not, ◌&&◌, ◌||◌, nat_lt, nat_le, if◌then◌else◌, Option, Some, None, slice_get, IsOk, Result, Ok, Err}
use Rattle.std.specs.List.{AllByRecursion}
use Rattle.std.specs.Option.{option_map, option_or}
use Rattle.std.specs.declared.cmp.Ordering.TheVariants.{Less}
use Rattle.std.specs.Ordering.{nat_cmp}
use Rattle.std.proofs.Common.{inl, inr, refl, sym, ap, subst, ◌∙◌, arith}
use Rattle.std.proofs.lemmas.Bool.{eqb-true, eq-eqb}
use Rattle.std.proofs.lemmas.List.{length-append, length-map}
use Rattle.std.proofs.lemmas.List.Elements.{recursion_from_All}
use Rattle.std.proofs.lemmas.Option.{same_Some, slice_get_within}
use Rattle.wasm_types.specs.declared.val_type.ValType.{ValType}
use Rattle.wasm_types.specs.declared.val_type.ValType.TheVariants.{I64}
use Rattle.walrus_ir.specs.declared.val_type.InstrSeqType.{InstrSeqType}
use Rattle.walrus_ir.specs.Unfolding.{among}
use Rattle.wasm_numbers.specs.Results.{◌>>=◌, unless, some_or, each}
use Rattle.wasm_body.specs.declared.error.EmitError.{EmitError}
use Rattle.wasm_body.specs.declared.error.EmitError.TheVariants.{TooLarge, UnnumberedLocal}
use Rattle.wasm_body.specs.declared.error.IndexError.TheVariants.{NoLocals, LocalOutOfRange}
use Rattle.wasm_body.specs.Control.{Control, End, with_control}
use Rattle.wasm_body.specs.SourceTree.{Body, map_sequence}
use Rattle.wasm_body.specs.Naming.{Occurrence}
use Rattle.wasm_body.specs.FunctionTree.{FunctionTree}
use Rattle.wasm_body.specs.NormalForm.{typing_of, name_at, body_tree}
use Rattle.wasm_body.specs.Parsing.Accepted.{mark, Lawful}
use Rattle.wasm_body.specs.LocalNumbers.{Local, ids_of, types_of, locals_among, locals_of, uses_local, AreDeclared, last_place, number_of_local, one_more, runs, declaration, declarations, declared, numbering_locals}
use Rattle.wasm_body.specs.Bytes.{Numbers, in_32_bits, numbered_block, tree_bytes}
use Rattle.wasm_body.proofs.LocalNumbers.{Below, Ascends, ascends, IsLocalIn, holds_of_local, local_among, last_place_get}
use Rattle.wasm_body.proofs.Bytes.LawfulTyped.{NamedSomewhere, named_somewhere}
use Rattle.wasm_body.proofs.Bytes.NumberedBodies.{HasNumbers, HasText, translated, body_bytes_ok}
use Rattle.wasm_body.proofs.Bytes.OtherLocals.{IsOfLocal, Has, named_locals, normal_has, same_block, same_bytes_at}
use Rattle.wasm_body.proofs.Structure.Along.{AllMarked, each_of, each_mapped}
use Rattle.walrus_numbering.specs.EmittedLocals.{HasUnknown}
use Rattle.walrus_rewrite.specs.RawBodies.{HasNoRawBody, undeclared, unwritten}
use Rattle.walrus_run.specs.Demo.{demo_args, demo_locals, demo_environment, demo_numbers}
use Rattle.walrus_run.proofs.DemoNumbers.{within, some_of, locals_are, has_indices, has_blocks}

not_ok : {A E : Type 0} (r : Result A E) (e : E) → IsOk r → r ≡ Err e → ⊥
not_ok (Ok x) e h k = cc
not_ok (Err g) e h k = cc h

-- ---- lists

among_all : (P : ℕ → Type 0) (id : ℕ) (ls : List ℕ) → AllByRecursion P ls → among id ls ≡ true → P id
among_all P id [] h e = absurd cc
among_all P id (x ∷ ls) h e =
    elim (id == x) as (λ b. (id == x) ≡ b → (b || among id ls) ≡ true → P id) [
      | true ↦ λ same all. subst P (sym (eqb-true id x same)) h.0
      | false ↦ λ other all. among_all P id ls h.1 all
    ] refl e

all_among : (P : ℕ → Type 0) (ls : List ℕ) → ((id : ℕ) → among id ls ≡ true → P id) → AllByRecursion P ls
all_among P [] h = tt
all_among P (x ∷ ls) h =
    let own : (x == x) ≡ true = grind arith in (
      h x (ap (λ b. b || among x ls) own),
      all_among P ls (λ id a. h id (ap (λ b. (id == x) || b) a ∙ or_true (id == x))),
    )
  where
    or_true : (b : Bool) → (b || true) ≡ true
    or_true true = refl
    or_true false = refl

all_of_each_local : (P : Local → Type 0) (ls : List Local) → ((l : Local) → IsLocalIn l ls → P l) → AllByRecursion P ls
all_of_each_local P [] h = tt
all_of_each_local P (l ∷ ls) h = (h l (inl refl), all_of_each_local P ls (λ k s. h k (inr s)))

some_place : (xs : List ℕ) (id : ℕ) → among id xs ≡ true → (n : ℕ) × (last_place xs id ≡ Some n)
some_place [] id h = absurd cc
some_place (x ∷ xs) id h =
    elim (last_place xs id) as (λ o. last_place xs id ≡ o → (n : ℕ) × (last_place (x ∷ xs) id ≡ Some n)) [
      | Some m ↦ λ e. (m + 1, ap (λ o. option_or (option_map (λ n. n + 1) o) (if x == id then Some 0 else None)) e)
      | None ↦ λ e.
          elim (id == x) as (λ b. (id == x) ≡ b → (b || among id xs) ≡ true → (n : ℕ) × (last_place (x ∷ xs) id ≡ Some n)) [
            | true ↦ λ same all.
                let own = eq-eqb x id (sym (eqb-true id x same)) in
                (0, ap (λ o. option_or (option_map (λ n. n + 1) o) (if x == id then Some 0 else None)) e ∙ ap (λ b. if b then Some 0 else None) own)
            | false ↦ λ other all. let found = some_place xs id all in absurd (let no : Some found.0 ≡ None = sym found.1 ∙ e in cc)
          ] refl h
    ] refl

-- ---- which locals are used

-- the local of an old index
old_local : (id : ℕ) → IsOfLocal demo_environment id → id ≤ 3
old_local id at =
    let named = ap (λ o. some_or o (NoLocals 0) >>= λ locals. some_or (slice_get locals at.0) (LocalOutOfRange 0 at.0)) locals_are in
    within (λ i. i ≤ 3) (0 ∷ 1 ∷ 2 ∷ 3 ∷ []) at.0 id (omega arith, (omega arith, (omega arith, (omega arith, tt))))
    (some_of (slice_get (0 ∷ 1 ∷ 2 ∷ 3 ∷ []) at.0) (LocalOutOfRange 0 at.0) id (sym named ∙ at.1))

is_known : (id : ℕ) → id ≤ 3 → slice_get demo_locals id ≡ None → ⊥
is_known zero h e = cc
is_known (suc zero) h e = cc
is_known (suc (suc zero)) h e = cc
is_known (suc (suc (suc zero))) h e = cc
is_known (suc (suc (suc (suc n)))) h e = absurd (omega (arith, h))

-- ---- which are declared

abbrev IsOther : Local → Type 0
IsOther l = (l.0 ≡ I64) × (1 ≤ l.1) × (l.1 ≤ 3)

other_local : (id : ℕ) (t : ValType ℕ) (u : Bool) → true ≡ (u && not (among id demo_args)) → slice_get demo_locals id ≡ Some t → IsOther (t, id)
other_local zero t true h e = absurd cc
other_local zero t false h e = absurd cc
other_local (suc zero) t u h e = (sym (same_Some _ _ e), omega arith, omega arith)
other_local (suc (suc zero)) t u h e = (sym (same_Some _ _ e), omega arith, omega arith)
other_local (suc (suc (suc zero))) t u h e = (sym (same_Some _ _ e), omega arith, omega arith)
other_local (suc (suc (suc (suc n)))) t u h e = absurd cc

by_id : (t u : ValType ℕ) (i j : ℕ) → t ≡ I64 → u ≡ I64 → Below (t, i) (u, j) → i < j
by_id t u i j h k b =
    let same : nat_cmp i j ≡ Less = subst (λ (v : ValType ℕ). Below (I64, i) (v, j)) k (subst (λ (v : ValType ℕ). Below (v, i) (u, j)) h b) in
    grind arith

few : (ls : List Local) (low : ℕ) → low ≤ 4 → Ascends ls → AllByRecursion IsOther ls → AllByRecursion (λ l. low ≤ l.1) ls → low + length ls ≤ 4
few [] low h a o from = omega (arith, h)
few (l ∷ ls) low h a o from =
    omega (arith, few ls (suc low) (omega (arith, o.0.2, from.0)) a.1 o.1 (above ls a.0 o.1))
  where
    above : (ms : List Local) → AllByRecursion (Below l) ms → AllByRecursion IsOther ms → AllByRecursion (λ m. suc low ≤ m.1) ms
    above [] b p = tt
    above (m ∷ ms) b p = (omega (arith, from.0, by_id l.0 m.0 l.1 m.1 o.0.0 p.0.0 b.0), above ms b.1 p.1)

-- ---- their declarations

same_runs : (ts : List (ValType ℕ)) → AllByRecursion (λ t. t ≡ I64) ts → (runs ts ≡ []) ⊎ ((n : ℕ) × (n ≤ length ts) × (runs ts ≡ (n, I64) ∷ []))
same_runs [] h = inl refl
same_runs (t ∷ ts) h = longer (same_runs ts h.1)
  where
    longer : (runs ts ≡ []) ⊎ ((n : ℕ) × (n ≤ length ts) × (runs ts ≡ (n, I64) ∷ [])) → (runs (t ∷ ts) ≡ []) ⊎ ((n : ℕ) × (n ≤ length (t ∷ ts)) × (runs (t ∷ ts) ≡ (n, I64) ∷ []))
    longer (inl e) = inr (1, omega arith, ap (one_more t) e ∙ ap (λ u. (1, u) ∷ []) h.0)
    longer (inr r) =
        inr (r.0 + 1, omega (arith, r.1), ap (one_more t) r.2 ∙ subst (λ u. one_more u ((r.0, I64) ∷ []) ≡ (r.0 + 1, I64) ∷ []) (sym h.0) refl)

types_alike : (ls : List Local) → AllByRecursion IsOther ls → AllByRecursion (λ t. t ≡ I64) (types_of ls)
types_alike [] h = tt
types_alike (l ∷ ls) h = (h.0.0, types_alike ls h.1)

one_run_fits : (n : ℕ) → n ≤ 4 → nat_lt n (2 ^ 32) ≡ true
one_run_fits n h = grind arith

enough_numbers : (n : ℕ) → 1 + n ≤ 4 → nat_le (1 + n) (2 ^ 32) ≡ true
enough_numbers n h = grind arith

declares : (ls : List Local) → AllByRecursion IsOther ls → 1 + length ls ≤ 4 → IsOk (declared demo_numbers 1 ls)
declares ls o h = by_runs (same_runs (types_of ls) (types_alike ls o))
  where
    numbered : nat_le (1 + length ls) (2 ^ 32) ≡ true
    numbered = enough_numbers (length ls) h

    by_runs : (runs (types_of ls) ≡ []) ⊎ ((n : ℕ) × (n ≤ length (types_of ls)) × (runs (types_of ls) ≡ (n, I64) ∷ [])) → IsOk (declared demo_numbers 1 ls)
    by_runs (inl e) = subst (λ b. IsOk (unless b TooLarge >>= λ u. declarations demo_numbers (runs (types_of ls)))) (sym numbered) (subst (λ rs. IsOk (declarations demo_numbers rs)) (sym e) refl)
    by_runs (inr r) =
        let small = one_run_fits r.0 (omega (arith, h, r.1, length-map ls (λ (l : Local). l.0))) in
        subst (λ b. IsOk (unless b TooLarge >>= λ u. declarations demo_numbers (runs (types_of ls)))) (sym numbered)
        (subst (λ rs. IsOk (declarations demo_numbers rs)) (sym r.2)
        (subst (λ b. IsOk (unless (b && true) TooLarge >>= λ u. each (declaration demo_numbers) ((r.0, I64) ∷ []))) (sym small) refl))

-- ---- numbers for all

module _ (others : List ℕ) (few_others : length others ≤ 3) where
  abbrev g : ℕ → Result ℕ EmitError
  g id = some_or (number_of_local demo_args others id) UnnumberedLocal

  -- a number for every id
  abbrev some_number : Option ℕ → Result ℕ EmitError
  some_number (Some n) = Ok n
  some_number None = Ok 0

  abbrev full : Numbers
  full = record { number_of = demo_numbers.number_of; local_number = λ id. some_number (number_of_local demo_args others id); balanced = demo_numbers.balanced }

  fits : (id : ℕ) (o : Option ℕ) → number_of_local demo_args others id ≡ o → IsOk (some_number o >>= in_32_bits)
  fits id None e = refl
  fits id (Some n) e =
      let at = slice_get_within (demo_args ++ others) n id (last_place_get (demo_args ++ others) id n e) in
      let small : nat_lt n (2 ^ 32) ≡ true = grind (arith, at, few_others, length-append demo_args others) in
      subst (λ b. IsOk (unless b TooLarge >>= λ u. Ok n)) (sym small) refl

  full_blocks : (t : InstrSeqType) → IsOk (numbered_block demo_numbers t) → IsOk (numbered_block full t)
  full_blocks t h = subst (λ r. IsOk r) (same_block demo_numbers full.local_number t) h

  full_has : HasNumbers demo_environment full
  full_has = record {
    indices = has_indices;
    locals = λ n id at. fits id (number_of_local demo_args others id) refl;
    blocks = λ b s t named picked. full_blocks t (has_blocks b s t named picked);
  }

  agree : (id : ℕ) → among id (demo_args ++ others) ≡ true → full.local_number id ≡ g id
  agree id h = let p = some_place (demo_args ++ others) id h in ap some_number p.1 ∙ sym (ap (λ o. some_or o UnnumberedLocal) p.1)

-- ---- an accepted body

module _ (xs : List Occurrence) (b : Body Occurrence) (texts : AllByRecursion HasText xs) (lawful : Lawful demo_environment xs b) where
  abbrev tree : FunctionTree
  tree = body_tree demo_environment b

  abbrev Q : Occurrence → Control → Type 0
  Q x c = AllByRecursion (IsOfLocal demo_environment) (locals_among x.named.immediates)

  all_named : (ys : List Occurrence) → AllMarked (NamedSomewhere demo_environment) (map mark ys) → AllMarked Q (map mark ys)
  all_named [] h = tt
  all_named (y ∷ ys) h =
      (named_locals demo_environment h.0.0 y.spelt y.named (translated demo_environment h.0.0 y.spelt y.named h.0.1), all_named ys h.1)

  all_old : AllByRecursion (IsOfLocal demo_environment) (locals_of tree)
  all_old =
      let marks = subst (AllMarked Q) lawful.is_body (all_named xs (named_somewhere demo_environment xs b lawful)) in
      let each = (each_of Q b.sequence (with_control b.close End ∷ []) marks).0 in
      normal_has (IsOfLocal demo_environment) (typing_of demo_environment) (map_sequence name_at b.sequence)
      (each_mapped (Has (IsOfLocal demo_environment)) name_at b.sequence each)

  pub none_unknown : HasUnknown demo_locals demo_args (uses_local tree) → ⊥
  none_unknown h = is_known h.id (old_local h.id (among_all (IsOfLocal demo_environment) h.id (locals_of tree) all_old h.is_used)) h.has_no_type

  module _ (others : List Local) (d : AreDeclared demo_locals demo_args (uses_local tree) others) where
    are_others : AllByRecursion IsOther others
    are_others =
        all_of_each_local IsOther others (λ l s.
        other_local l.1 l.0 (uses_local tree l.1) (sym (local_among l others s) ∙ d.are_all l.1)
        (holds_of_local (λ k. slice_get demo_locals k.1 ≡ Some k.0) l others (recursion_from_All _ others d.typed) s))

    from_one : (ls : List Local) → AllByRecursion IsOther ls → AllByRecursion (λ l. 1 ≤ l.1) ls
    from_one [] h = tt
    from_one (l ∷ ls) h = (h.0.1, from_one ls h.1)

    few_others : 1 + length others ≤ 4
    few_others = few others 1 (omega arith) (ascends others d.ascend) are_others (from_one others are_others)

    pub can_declare : IsOk (declared demo_numbers 1 others)
    can_declare = declares others are_others few_others

    few_ids : length (ids_of others) ≤ 3
    few_ids = omega (arith, few_others, length-map others (λ (l : Local). l.1))

    -- each local of the tree is an argument or is declared
    is_numbered : (id : ℕ) → among id (locals_of tree) ≡ true → among id (demo_args ++ ids_of others) ≡ true
    is_numbered id used =
        elim (id == 0) as (λ b. (id == 0) ≡ b → (b || among id (ids_of others)) ≡ true) [
          | true ↦ λ e. refl
          | false ↦ λ e. d.are_all id ∙ (ap (λ u. u && not (among id demo_args)) used ∙ ap (λ b. not (b || false)) e)
        ] refl

    pub can_write : IsOk (tree_bytes (numbering_locals demo_numbers demo_args (ids_of others)) tree)
    can_write =
        let to = full (ids_of others) few_ids in
        subst (λ r. IsOk r)
        (same_bytes_at to (g (ids_of others) few_ids) tree
        (all_among (λ id. to.local_number id ≡ g (ids_of others) few_ids id) (locals_of tree) (λ id used. agree (ids_of others) few_ids id (is_numbered id used))))
        (body_bytes_ok demo_environment to (full_has (ids_of others) few_ids) xs b texts lawful)

  -- So it has a raw body.
  pub has_raw_body : (e : EmitError) → HasNoRawBody (record { to = demo_numbers; types = demo_locals; args = demo_args }) tree e → ⊥
  has_raw_body e (undeclared (inl h)) = none_unknown h.1
  has_raw_body e (undeclared (inr h)) = not_ok (declared demo_numbers 1 h.others) e (can_declare h.others h.are_declared) h.fault_is
  has_raw_body e (unwritten others declarations d h w) = not_ok (tree_bytes (numbering_locals demo_numbers demo_args (ids_of others)) tree) e (can_write others d) w
