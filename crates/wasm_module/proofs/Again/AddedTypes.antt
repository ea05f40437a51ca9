-- Types that are added after those of a module: they change neither what a block type names nor the type that is picked for it.
use Rattle.std.proofs.Common.{◌≡◌, ◌⊎◌, inl, inr, ◌+◌, ◌<◌, ℕ, zero, suc, List, [], ◌∷◌, ◌++◌, length, slice_get, Bool, true, false, cond, Some, None, Ok, refl, sym, ap, ◌∙◌, subst, arith, length-append}
use Rattle.std.specs.Prelude.{not, ◌&&◌, is_some, unwrap_or, option_and_then, position}
use Rattle.std.specs.List.{position_or_len, prefix_len}
use Rattle.std.specs.Option.{option_map}
use Rattle.std.proofs.lemmas.Option.{none-some, same_Some, slice_get_within}
use Rattle.std.proofs.lemmas.Bool.{lt-ltb}
use Rattle.wasm_types.specs.declared.val_type.HeapType.{HeapType}
use Rattle.wasm_types.specs.declared.val_type.HeapType.TheVariants.{Abstract, Concrete}
use Rattle.wasm_types.specs.declared.val_type.ValType.{ValType}
use Rattle.wasm_types.specs.declared.val_type.ValType.TheVariants.{I32, I64, F32, F64, V128, Ref}
use Rattle.walrus_ir.specs.declared.val_type.InstrSeqType.{InstrSeqType}
use Rattle.walrus_ir.specs.declared.val_type.InstrSeqType.TheVariants.{Simple, MultiValue}
use Rattle.walrus_ir.specs.Types.{Signature, signature, ModuleType, Func, Other, signature_in, signature_of, is_function, find, pick, signature_of_type}
use Rattle.walrus_ir.proofs.SameTypes.{same_types-Decides}
use Rattle.wasm_operators.specs.declared.types.BlockType.{BlockType}
use Rattle.wasm_operators.specs.declared.types.BlockType.TheVariants.{Empty, Value, FuncType}
use Rattle.wasm_operators.specs.declared.types.Space.{Space}
use Rattle.wasm_operators.specs.declared.types.Space.TheVariants.{Types}
use Rattle.wasm_numbers.specs.Results.{◌>>=◌, some_or}
use Rattle.wasm_body.specs.declared.error.ParseError.TheVariants.{NotAFunctionType}
use Rattle.wasm_body.specs.Naming.{Environment, id_at, function_type, name_block}
use Rattle.wasm_body.specs.NormalForm.{typing_of, is_balanced_type}
use Rattle.wasm_body.specs.Translation.{translate_heap, translate_value}
use Rattle.wasm_body.specs.Bytes.{Numbers, in_32_bits, numbered_block}
use Rattle.wasm_body.proofs.Bytes.Picks.{pick_has_signature}
use Rattle.wasm_body.proofs.Translation.Steps.{bound}
use Rattle.wasm_module.proofs.Again.WrittenAlike.{ArePickedAlike}
use Rattle.wasm_module.proofs.Again.Locals.{get_before}

-- A function type of a module.
abbrev pub IsFunctionType : List ModuleType → ℕ → Type 0
IsFunctionType types id = (parameters results : List (ValType ℕ)) × (slice_get types id ≡ Some (Func parameters results))

-- ---- the first type that passes a test

first_failing : {A : Type 0} (q : A → Bool) (xs ys : List A) (x : A) (i : ℕ) → slice_get xs i ≡ Some x → q x ≡ false → prefix_len q (xs ++ ys) ≡ prefix_len q xs
first_failing q [] ys x i e h = absurd (none-some x e)
first_failing q (y ∷ xs) ys x zero e h =
    let fails : q y ≡ false = ap q (same_Some y x e) ∙ h in
    ap (λ b. cond b (1 + prefix_len q (xs ++ ys)) 0) fails ∙ sym (ap (λ b. cond b (1 + prefix_len q xs) 0) fails)
first_failing q (y ∷ xs) ys x (suc i) e h = ap (λ n. cond (q y) (1 + n) 0) (first_failing q xs ys x i e h)

failing_within : {A : Type 0} (q : A → Bool) (xs : List A) (x : A) (i : ℕ) → slice_get xs i ≡ Some x → q x ≡ false → prefix_len q xs < length xs
failing_within q [] x i e h = absurd (none-some x e)
failing_within q (y ∷ xs) x zero e h =
    let fails : q y ≡ false = ap q (same_Some y x e) ∙ h in
    subst (λ b. cond b (1 + prefix_len q xs) 0 < length (y ∷ xs)) (sym fails) (omega arith)
failing_within q (y ∷ xs) x (suc i) e h =
    let rest = failing_within q xs x i e h in
    elim (q y) as (λ b. cond b (1 + prefix_len q xs) 0 < length (y ∷ xs)) [ true ↦ omega arith | false ↦ omega arith ]

same_position : {A : Type 0} (p : A → Bool) (xs ys : List A) (x : A) (i : ℕ) → slice_get xs i ≡ Some x → p x ≡ true → position p (xs ++ ys) ≡ Some (position_or_len p xs)
same_position p xs ys x i e h =
    let fails : not (p x) ≡ false = ap not h in
    let first = first_failing (λ y. not (p y)) xs ys x i e fails in
    let within = failing_within (λ y. not (p y)) xs x i e fails in
    let long = length-append xs ys in
    let longer : position_or_len p (xs ++ ys) < length (xs ++ ys) = omega arith in
    ap (λ b. cond b (Some (position_or_len p (xs ++ ys))) None) (lt-ltb (position_or_len p (xs ++ ys)) (length (xs ++ ys)) longer) ∙ ap (λ (n : ℕ). Some n) first

-- ---- two environments with types added

pub record HaveTypesAdded (types : List ModuleType) (env env' : Environment) : Type 0 where
  pub more : List ModuleType
  pub more' : List ModuleType
  pub types_are : env.types ≡ types ++ more
  pub types_are' : env'.types ≡ types ++ more'
  pub ids : (space : Space) (n id : ℕ) → id_at env space n ≡ Ok id → id_at env' space n ≡ Ok id
  pub known : (n id : ℕ) → id_at env Types n ≡ Ok id → IsFunctionType types id ⊎ (slice_get types id ≡ Some Other)

module _ (types : List ModuleType) (env env' : Environment) (h : HaveTypesAdded types env env') where
  pub known_type : (id : ℕ) (type : ModuleType) (more : List ModuleType) → slice_get types id ≡ Some type → slice_get (types ++ more) id ≡ Some type
  known_type id type more e = get_before types more id (slice_get_within types id type e) ∙ e

  heap_there : (t u : HeapType ℕ) → translate_heap (id_at env) t ≡ Ok u → translate_heap (id_at env') t ≡ Ok u
  heap_there (Abstract a) u e = e
  heap_there (Concrete n) u e =
      let id = bound (id_at env Types n) (λ m. Ok (Concrete m)) u e in
      ap (λ r. r >>= λ m. Ok (Concrete m)) (h.ids Types n id.0 id.1) ∙ id.2

  value_there : (t u : ValType ℕ) → translate_value (id_at env) t ≡ Ok u → translate_value (id_at env') t ≡ Ok u
  value_there I32 u e = e
  value_there I64 u e = e
  value_there F32 u e = e
  value_there F64 u e = e
  value_there V128 u e = e
  value_there (Ref r) u e =
      let to_ref : HeapType ℕ → ValType ℕ = λ g. Ref (record { nullable = r.nullable; heap_type = g }) in
      let heap = bound (translate_heap (id_at env) r.heap_type) (λ g. Ok (to_ref g)) u e in
      ap (λ s. s >>= λ g. Ok (to_ref g)) (heap_there r.heap_type heap.0 heap.1) ∙ heap.2

  -- a block type of the first is one of the second
  pub same_blocks : (b : BlockType) (s : Signature) → name_block env b ≡ Ok s → name_block env' b ≡ Ok s
  same_blocks Empty s e = e
  same_blocks (Value t) s e =
      let u = bound (translate_value (id_at env) t) (λ u. Ok (signature [] (u ∷ []))) s e in
      ap (λ r. r >>= λ v. Ok (signature [] (v ∷ []))) (value_there t u.0 u.1) ∙ u.2
  same_blocks (FuncType n) s e =
      let id = bound (id_at env Types n) (λ id. function_type env id) s e in
      ap (λ r. r >>= λ k. function_type env' k) (h.ids Types n id.0 id.1)
      ∙ (same_function id.0 (h.known n id.0 id.1) ∙ id.2)
    where
      same_at : (id : ℕ) (type : ModuleType) → slice_get types id ≡ Some type → function_type env' id ≡ function_type env id
      same_at id type is =
          ap (λ ts. some_or (signature_of ts id) NotAFunctionType) h.types_are'
          ∙ (ap (λ o. some_or (option_and_then signature_in o) NotAFunctionType) (known_type id type h.more' is ∙ sym (known_type id type h.more is))
          ∙ ap (λ ts. some_or (signature_of ts id) NotAFunctionType) (sym h.types_are))

      same_function : (id : ℕ) → IsFunctionType types id ⊎ (slice_get types id ≡ Some Other) → function_type env' id ≡ function_type env id
      same_function id (inl x) = same_at id (Func x.0 x.1) x.2
      same_function id (inr x) = same_at id Other x

  -- ---- the picks

  passes : (ps rs : List (ValType ℕ)) → is_function ps rs (Func ps rs) ≡ true
  passes ps rs = (λ i. (same_types-Decides ps ps).1 refl i && (same_types-Decides rs rs).1 refl i)

  found : (id : ℕ) (ps rs : List (ValType ℕ)) → slice_get types id ≡ Some (Func ps rs) → (more : List ModuleType) → find (types ++ more) ps rs ≡ Some (position_or_len (is_function ps rs) types)
  found id ps rs is more = same_position (is_function ps rs) types more (Func ps rs) id is (passes ps rs)

  -- the type that is picked where the module has one, whatever types are added
  picks : (id : ℕ) (ps rs : List (ValType ℕ)) → slice_get types id ≡ Some (Func ps rs) → (u : InstrSeqType) × ((more : List ModuleType) → pick (types ++ more) (signature ps rs) ≡ Some u)
  picks id [] [] is = (Simple None, λ more. refl)
  picks id [] (t ∷ []) is = (Simple (Some t), λ more. refl)
  picks id [] (t ∷ u ∷ ts) is = (MultiValue (position_or_len (is_function [] (t ∷ u ∷ ts)) types), λ more. ap (option_map MultiValue) (found id [] (t ∷ u ∷ ts) is more))
  picks id (p ∷ ps) rs is = (MultiValue (position_or_len (is_function (p ∷ ps) rs) types), λ more. ap (option_map MultiValue) (found id (p ∷ ps) rs is more))

  module _
      (to to' : Numbers) (numbers : (space : Space) (id : ℕ) → to'.number_of space id ≡ to.number_of space id)
      (balanced : (t : InstrSeqType) → to.balanced t ≡ is_balanced_type (signature_of_type env.types t)) (balanced' : (t : InstrSeqType) → to'.balanced t ≡ is_balanced_type (signature_of_type env'.types t)) where
    AreAlikeAt : Signature → Type 0
    AreAlikeAt s =
        (numbered_block to' ((typing_of env').picked s) ≡ numbered_block to ((typing_of env).picked s)) × (to'.balanced ((typing_of env').picked s) ≡ to.balanced ((typing_of env).picked s))

    same_block : (t : InstrSeqType) → numbered_block to' t ≡ numbered_block to t
    same_block (Simple None) = refl
    same_block (Simple (Some t)) = λ i. translate_value (λ space id. numbers space id i >>= in_32_bits) t >>= λ u. Ok (Value u)
    same_block (MultiValue id) = ap (λ r. r >>= in_32_bits >>= λ n. Ok (FuncType n)) (numbers Types id)

    alike_at : (b : BlockType) (s : Signature) → name_block env b ≡ Ok s → AreAlikeAt s
    unfolding AreAlikeAt
    alike_at Empty s e =
        let is : signature [] [] ≡ s = cc e in
        subst AreAlikeAt is (refl, balanced' (Simple None) ∙ sym (balanced (Simple None)))
    alike_at (Value t) s e =
        let u = bound (translate_value (id_at env) t) (λ u. Ok (signature [] (u ∷ []))) s e in
        let is : signature [] (u.0 ∷ []) ≡ s = cc u.2 in
        subst AreAlikeAt is (same_block (Simple (Some u.0)), balanced' (Simple (Some u.0)) ∙ sym (balanced (Simple (Some u.0))))
    alike_at (FuncType n) s e =
        let id = bound (id_at env Types n) (λ id. function_type env id) s e in
        at_type id.0 (h.known n id.0 id.1) id.2
      where
        type_is : (id : ℕ) (type : ModuleType) → slice_get types id ≡ Some type → function_type env id ≡ some_or (signature_in type) NotAFunctionType
        type_is id type is =
            ap (λ ts. some_or (signature_of ts id) NotAFunctionType) h.types_are ∙ ap (λ o. some_or (option_and_then signature_in o) NotAFunctionType) (known_type id type h.more is)

        at_type : (id : ℕ) → IsFunctionType types id ⊎ (slice_get types id ≡ Some Other) → function_type env id ≡ Ok s → AreAlikeAt s
        at_type id (inr x) f = absurd (let none = sym (type_is id Other x) ∙ f in cc)
        at_type id (inl x) f =
            let made = sym (type_is id (Func x.0 x.1) x.2) ∙ f in
            let is : signature x.0 x.1 ≡ s = cc made in
            let u = picks id x.0 x.1 x.2 in
            let r = signature x.0 x.1 in
            let one : pick env.types r ≡ Some u.0 = ap (λ ts. pick ts r) h.types_are ∙ u.1 h.more in
            let two : pick env'.types r ≡ Some u.0 = ap (λ ts. pick ts r) h.types_are' ∙ u.1 h.more' in
            let picked : (typing_of env).picked r ≡ u.0 = ap (λ o. unwrap_or o (Simple None)) one in
            let picked' : (typing_of env').picked r ≡ u.0 = ap (λ o. unwrap_or o (Simple None)) two in
            let of_one : signature_of_type env.types u.0 ≡ Some r = subst (λ t. signature_of_type env.types t ≡ Some r) picked (pick_has_signature env.types r (Simple None) (ap is_some one)) in
            let of_two : signature_of_type env'.types u.0 ≡ Some r = subst (λ t. signature_of_type env'.types t ≡ Some r) picked' (pick_has_signature env'.types r (Simple None) (ap is_some two)) in
            subst AreAlikeAt is (
              ap (numbered_block to') picked' ∙ (same_block u.0 ∙ sym (ap (numbered_block to) picked)),
              ap to'.balanced picked' ∙ (balanced' u.0 ∙ (ap is_balanced_type (of_two ∙ sym of_one) ∙ (sym (balanced u.0) ∙ sym (ap to.balanced picked)))),
            )

    pub picked_alike : ArePickedAlike env (typing_of env) (typing_of env') to to'
    unfolding AreAlikeAt
    picked_alike = record { numbers = λ b s e. (alike_at b s e).0; balanced = λ b s e. (alike_at b s e).1 }
