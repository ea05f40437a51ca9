-- An operator that was encoded and then named has an encoding again, with numbers for its ids.
use Rattle.std.proofs.Common.{◌≡◌, ℕ, ◌<◌, List, [], ◌∷◌, length, Option, Some, None, Result, Ok, refl, sym, subst}
use Rattle.std.specs.Prelude.{◌^◌, ◌++◌}
use Rattle.std.specs.List.{AllByRecursion}
use Rattle.wasm_types.specs.declared.val_type.HeapType.{HeapType}
use Rattle.wasm_types.specs.declared.val_type.HeapType.TheVariants.{Abstract, Concrete}
use Rattle.wasm_types.specs.declared.val_type.ValType.{ValType}
use Rattle.wasm_types.specs.declared.val_type.ValType.TheVariants.{I32, I64, F32, F64, V128, Ref}
use Rattle.walrus_ir.specs.declared.val_type.InstrSeqType.{InstrSeqType}
use Rattle.walrus_ir.specs.declared.val_type.InstrSeqType.TheVariants.{Simple, MultiValue}
use Rattle.walrus_ir.specs.Types.{Signature}
use Rattle.wasm_operators.specs.declared.types.BlockType.{BlockType}
use Rattle.wasm_operators.specs.declared.types.BlockType.TheVariants.{Empty, Value, FuncType}
use Rattle.wasm_operators.specs.declared.types.Space.TheVariants.{Types, Memories, Tags}
use Rattle.wasm_numbers.specs.Reading.{Many}
use Rattle.wasm_numbers.specs.Numbers.{IsU32, IsU64, IsS32, IsS64, IsByte, AreBits}
use Rattle.wasm_operators.specs.Types.{IsBlockType}
use Rattle.wasm_operators.specs.Operations.{Access, CatchClause, Cast, Immediate, index, local, label, handler, outer, number, access, branch_table, clauses, block, heap, value, cast, i32, i64, f32, f64, v128, lane, lanes, zero_byte, RawImmediate}
use Rattle.wasm_operators.specs.Immediates.{IsAccess, IsClause, SpellsImmediate, SpellsImmediates}
use Rattle.wasm_operators.proofs.ShortestImmediates.{flags_are}
use Rattle.wasm_body.specs.declared.error.EmitError.{EmitError}
use Rattle.wasm_numbers.specs.Results.{◌>>=◌, each}
use Rattle.wasm_body.specs.Frames.{SequenceFrame}
use Rattle.wasm_body.specs.Translation.{Translation, translate_heap, translate_value, translate_tag, translate_clause, translate_cast, translate_access, translate_immediate, translate_immediates}
use Rattle.wasm_body.specs.Naming.{Environment, naming, id_at}
use Rattle.wasm_body.specs.FlatText.{then_by, exponent_of}
use Rattle.wasm_body.proofs.NormalForm.Exponents.{exponent_of-pow}
use Rattle.wasm_body.specs.Bytes.{Numbers, in_32_bits, numbers_in_32_bits, numbered_block, numbering}
use Rattle.wasm_body.specs.ReadBack.{EachInHeap, EachInValue, EachInTag, EachIn, IsUndone, IsUndoneLocal, IsUndoneType}
use Rattle.wasm_operators.specs.Fitting.{FitsHeap, FitsValue, FitsTag}
use Rattle.wasm_body.proofs.Bytes.Fitting.{fitting_is, fitting_result}
use Rattle.wasm_body.proofs.Translation.Steps.{bound, length-each}
use Rattle.wasm_body.proofs.Translation.Kinds.{through, at_once}
use Rattle.wasm_body.proofs.NormalForm.WrittenTexts.{named_by}
use Rattle.wasm_body.proofs.ReadBack.Spellings.{IsSpellable, u32_spelt, heap_spelt, empty_block_spelt, value_block_spelt, index_block_spelt, access_spelt, table_spelt, clause_spelt, clauses_spelt, cast_spelt, selected_spelt}

-- ---- conditions on a named immediate, its ids, labels and numbers aside

abbrev pub IsRanged : {L B : Type 0} → Immediate L B → Type 0
IsRanged (access a) = (a.alignment < 32) × IsSpellable IsU64 a.offset
IsRanged (i32 z) = IsSpellable IsS32 z
IsRanged (i64 z) = IsSpellable IsS64 z
IsRanged (f32 bits) = IsSpellable (AreBits 4) bits
IsRanged (f64 bits) = IsSpellable (AreBits 8) bits
IsRanged (v128 bits) = IsSpellable (AreBits 16) bits
IsRanged (lane n) = IsSpellable IsByte n
IsRanged (lanes ns) = IsSpellable (Many IsByte 16) ns
IsRanged _ = Unit {0}

-- an immediate that was encoded is in range

access_ranged : (a : Access) (text : List ℕ) → IsAccess a text → (a.alignment < 32) × IsSpellable IsU64 a.offset
access_ranged a text s =
    let is : record { alignment = s.0.0.0; memory = s.0.1.0; offset = s.0.1.1 } ≡ a = cc s.1 in
    let flags = s.2.3 in
    let rest = s.2.4 in
    subst (λ (b : Access). (b.alignment < 32) × IsSpellable IsU64 b.offset) is ((flags_are flags.0 s.0.0 flags.1).small, (rest.1, rest.4))

module _ {A : Type 0} (env : Environment) (fs : List (SequenceFrame A)) where
  abbrev Ranged : Immediate ℕ Signature → Type 0
  Ranged j = IsRanged j

  access_named : (a : Access) (text : List ℕ) → IsAccess a text → (b : Access) → translate_access (naming env fs) a ≡ Ok b → Ranged (access b)
  access_named a text s b e =
      let h = access_ranged a text s in
      through (id_at env Memories a.memory) (λ m. record { alignment = a.alignment; memory = m; offset = a.offset })
      (λ (c : Access). (c.alignment < 32) × IsSpellable IsU64 c.offset) (λ m g. h) b e

  ranged : (i : RawImmediate) (text : List ℕ) → SpellsImmediate i text → (j : Immediate ℕ Signature) → translate_immediate (naming env fs) i ≡ Ok j → Ranged j
  ranged (index space n) text s j e = through (id_at env space n) (index space) Ranged (λ y h. tt) j e
  ranged (local n) text s j e = through ((naming env fs).local n) local Ranged (λ y h. tt) j e
  ranged (label l) text s j e = through ((naming env fs).label l) label Ranged (λ y h. tt) j e
  ranged (handler n) text s j e = through ((naming env fs).handler n) handler Ranged (λ y h. tt) j e
  ranged (outer n) text s j e = through ((naming env fs).outer n) outer Ranged (λ y h. tt) j e
  ranged (number n) text s j e = at_once (number n) Ranged tt j e
  ranged (access a) text s j e = through (translate_access (naming env fs) a) access Ranged (λ b h. access_named a text s b h) j e
  ranged (branch_table ts d) text s j e =
      let t = naming env fs in
      let us = bound (each t.label ts) (λ us. t.label d >>= λ c. Ok (branch_table us c)) j e in
      through (t.label d) (λ c. branch_table us.0 c) Ranged (λ y h. tt) j us.2
  ranged (clauses cs) text s j e = through (each (translate_clause (naming env fs)) cs) clauses Ranged (λ y h. tt) j e
  ranged (block b) text s j e = through ((naming env fs).block b) block Ranged (λ y h. tt) j e
  ranged (heap h) text s j e = through (translate_heap (naming env fs).index h) heap Ranged (λ y g. tt) j e
  ranged (value v) text s j e = through (translate_value (naming env fs).index v) value Ranged (λ y h. tt) j e
  ranged (cast c) text s j e = through (translate_cast (naming env fs) c) cast Ranged (λ y h. tt) j e
  ranged (i32 z) text s j e = at_once (i32 z) Ranged (text, s) j e
  ranged (i64 z) text s j e = at_once (i64 z) Ranged (text, s) j e
  ranged (f32 bits) text s j e = at_once (f32 bits) Ranged (text, s) j e
  ranged (f64 bits) text s j e = at_once (f64 bits) Ranged (text, s) j e
  ranged (v128 bits) text s j e = at_once (v128 bits) Ranged (text, s) j e
  ranged (lane n) text s j e = at_once (lane n) Ranged (text, s) j e
  ranged (lanes ns) text s j e = at_once (lanes ns) Ranged (text, s) j e
  ranged zero_byte text s j e = at_once zero_byte Ranged tt j e

  pub all_ranged : (is : List RawImmediate) (text : List ℕ) → SpellsImmediates is text → (js : List (Immediate ℕ Signature)) → translate_immediates (naming env fs) is ≡ Ok js → AllByRecursion Ranged js
  all_ranged [] text s js e = at_once [] (AllByRecursion Ranged) tt js e
  all_ranged (i ∷ is) text s js e =
      let first = bound (translate_immediate (naming env fs) i) (λ k. each (translate_immediate (naming env fs)) is >>= λ ks. Ok (k ∷ ks)) js e in
      through (each (translate_immediate (naming env fs)) is) (λ ks. first.0 ∷ ks) (AllByRecursion Ranged)
      (λ ks h. (ranged i s.0 s.3 first.0 first.1, all_ranged is s.1 s.4 ks h)) js first.2

-- ---- with numbers for its ids it has an encoding

each_made : {X Y E : Type 0} → (f : X → Result Y E) (P : X → Type 0) (Q : Y → Type 0) → ((x : X) (y : Y) → P x → f x ≡ Ok y → Q y) →
    (xs : List X) (ys : List Y) → AllByRecursion P xs → each f xs ≡ Ok ys → AllByRecursion Q ys
each_made f P Q h [] ys p e = at_once [] (AllByRecursion Q) tt ys e
each_made f P Q h (x ∷ xs) ys p e =
    let first = bound (f x) (λ y. each f xs >>= λ zs. Ok (y ∷ zs)) ys e in
    through (each f xs) (λ zs. first.0 ∷ zs) (AllByRecursion Q) (λ zs g. (h x first.0 p.0 first.1, each_made f P Q h xs zs p.1 g)) ys first.2

trivially : {X : Type 0} → (xs : List X) → AllByRecursion (λ x. Unit {0}) xs
trivially [] = tt
trivially (x ∷ xs) = (tt, trivially xs)

module _ (to : Numbers) (env : Environment) (t : InstrSeqType) where
  abbrev onward : Translation ℕ Signature ℕ BlockType EmitError
  onward = named_by (then_by (numbering to)) t

  abbrev Undone : Immediate ℕ Signature → Type 0
  Undone j = EachIn (IsUndone to env) (IsUndoneLocal to env) (λ s. IsUndoneType to env t) j

  abbrev IsSpelt : RawImmediate → Type 0
  IsSpelt k = IsSpellable SpellsImmediate k

  heap_fits : (h : HeapType ℕ) → EachInHeap (IsUndone to env) h → (g : HeapType ℕ) → translate_heap (numbers_in_32_bits to).number_of h ≡ Ok g → FitsHeap g
  heap_fits (Abstract a) u g e = at_once (Abstract a) FitsHeap tt g e
  heap_fits (Concrete n) u g e = through ((numbers_in_32_bits to).number_of Types n) Concrete FitsHeap (λ m h. (fitting_result (to.number_of Types n) m h).below) g e

  value_fits : (v : ValType ℕ) → EachInValue (IsUndone to env) v → (w : ValType ℕ) → translate_value (numbers_in_32_bits to).number_of v ≡ Ok w → FitsValue w
  value_fits I32 u w e = at_once I32 FitsValue tt w e
  value_fits I64 u w e = at_once I64 FitsValue tt w e
  value_fits F32 u w e = at_once F32 FitsValue tt w e
  value_fits F64 u w e = at_once F64 FitsValue tt w e
  value_fits V128 u w e = at_once V128 FitsValue tt w e
  value_fits (Ref r) u w e =
      through (translate_heap (numbers_in_32_bits to).number_of r.heap_type) (λ h. Ref (record { nullable = r.nullable; heap_type = h })) FitsValue
      (λ h made. heap_fits r.heap_type u h made) w e

  tag_fits : (g : Option ℕ) → EachInTag (IsUndone to env) g → (q : Option ℕ) → translate_tag (numbers_in_32_bits to).number_of g ≡ Ok q → FitsTag q
  tag_fits None u q e = at_once None FitsTag tt q e
  tag_fits (Some n) u q e = through ((numbers_in_32_bits to).number_of Tags n) (λ m. Some m) FitsTag (λ m h. (fitting_result (to.number_of Tags n) m h).below) q e

  clause_again : (c d : CatchClause ℕ) → EachInTag (IsUndone to env) c.tag → translate_clause onward c ≡ Ok d → IsSpellable IsClause d
  clause_again c d u e =
      let tag = bound (translate_tag (numbers_in_32_bits to).number_of c.tag) (λ g. in_32_bits c.label >>= λ l. Ok (record { by_reference = c.by_reference; tag = g; label = l })) d e in
      through (in_32_bits c.label) (λ l. record { by_reference = c.by_reference; tag = tag.0; label = l }) (IsSpellable IsClause)
      (λ l h. clause_spelt c.by_reference tag.0 l (tag_fits c.tag u tag.0 tag.1) (fitting_is c.label l h).below) d tag.2

  counted_is : (n : ℕ) (u : Unit {0}) → (in_32_bits n >>= λ _. Ok tt) ≡ Ok u → n < 2 ^ 32
  counted_is n u e = let q = bound (in_32_bits n) (λ _. Ok tt) u e in let fit = fitting_is n q.0 q.1 in subst (λ k. k < 2 ^ 32) fit.same fit.below

  block_again : (s : InstrSeqType) (c : BlockType) → IsUndoneType to env s → numbered_block to s ≡ Ok c → IsSpellable IsBlockType c
  block_again (Simple None) c u e = at_once Empty (IsSpellable IsBlockType) empty_block_spelt c e
  block_again (Simple (Some v)) c u e =
      through (translate_value (numbers_in_32_bits to).number_of v) Value (IsSpellable IsBlockType)
      (λ w h. value_block_spelt w (value_fits v u w h)) c e
  block_again (MultiValue id) c u e = through ((numbers_in_32_bits to).number_of Types id) FuncType (IsSpellable IsBlockType) (λ n h. index_block_spelt n (fitting_result (to.number_of Types id) n h).below) c e

  cast_again : (c : Cast ℕ) → Undone (cast c) → (k : RawImmediate) → translate_immediate onward (cast c) ≡ Ok k → IsSpelt k
  cast_again c u k e =
      let from : ℕ → HeapType ℕ → HeapType ℕ → Cast ℕ = λ l s g. record { from_nullable = c.from_nullable; to_nullable = c.to_nullable; label = l; source = s; target = g } in
      through (translate_cast onward c) cast IsSpelt (λ d made.
      let l = bound (in_32_bits c.label) (λ l. translate_heap (numbers_in_32_bits to).number_of c.source >>= λ s. translate_heap (numbers_in_32_bits to).number_of c.target >>= λ g. Ok (from l s g)) d made in
      let s = bound (translate_heap (numbers_in_32_bits to).number_of c.source) (λ s. translate_heap (numbers_in_32_bits to).number_of c.target >>= λ g. Ok (from l.0 s g)) d l.2 in
      through (translate_heap (numbers_in_32_bits to).number_of c.target) (from l.0 s.0) (λ d. IsSpelt (cast d)) (λ g h.
      cast_spelt l.0 s.0 g (fitting_is c.label l.0 l.1).below (heap_fits c.source u.0 s.0 s.1) (heap_fits c.target u.1 g h) c.from_nullable c.to_nullable) d s.2) k e

  access_again : (a : Access) → (a.alignment < 32) × IsSpellable IsU64 a.offset → IsUndone to env Memories a.memory → (b : Access) → translate_access onward a ≡ Ok b → IsSpellable IsAccess b
  access_again a r u b e =
      through ((numbers_in_32_bits to).number_of Memories a.memory) (λ m. record { alignment = exponent_of (2 ^ a.alignment); memory = m; offset = a.offset }) (IsSpellable IsAccess)
      (λ m h. access_spelt (record { alignment = exponent_of (2 ^ a.alignment); memory = m; offset = a.offset }) (subst (λ n. n < 32) (sym (exponent_of-pow a.alignment)) r.0) (fitting_result (to.number_of Memories a.memory) m h).below r.1) b e

  again : (j : Immediate ℕ Signature) → IsRanged j → Undone j → (k : RawImmediate) → translate_immediate onward j ≡ Ok k → IsSpelt k
  again (index space n) r u k e = through ((numbers_in_32_bits to).number_of space n) (index space) IsSpelt (λ m h. u32_spelt m (fitting_result (to.number_of space n) m h).below) k e
  again (local n) r u k e = through ((numbers_in_32_bits to).local_number n) local IsSpelt (λ m h. u32_spelt m (fitting_result (to.local_number n) m h).below) k e
  again (label l) r u k e = through (in_32_bits l) label IsSpelt (λ m h. u32_spelt m (fitting_is l m h).below) k e
  again (handler n) r u k e = through (in_32_bits n) handler IsSpelt (λ m h. u32_spelt m (fitting_is n m h).below) k e
  again (outer n) r u k e = through (in_32_bits n) outer IsSpelt (λ m h. u32_spelt m (fitting_is n m h).below) k e
  again (number n) r u k e = through (in_32_bits n) number IsSpelt (λ m h. u32_spelt m (fitting_is n m h).below) k e
  again (access a) r u k e = through (translate_access onward a) access IsSpelt (λ b h. access_again a r u b h) k e
  again (branch_table ts d) r u k e =
      let c = bound (onward.count (length ts)) (λ c. each in_32_bits ts >>= λ us. in_32_bits d >>= λ g. Ok (branch_table us g)) k e in
      let us = bound (each in_32_bits ts) (λ us. in_32_bits d >>= λ g. Ok (branch_table us g)) k c.2 in
      let count = subst (λ n. n < 2 ^ 32) (sym (length-each in_32_bits ts us.0 us.1)) (counted_is (length ts) c.0 c.1) in
      let all = each_made in_32_bits (λ n. Unit {0}) (IsSpellable IsU32) (λ n m p h. u32_spelt m (fitting_is n m h).below) ts us.0 (trivially ts) us.1 in
      through (in_32_bits d) (λ g. branch_table us.0 g) IsSpelt (λ g h. table_spelt us.0 g count all (fitting_is d g h).below) k us.2
  again (clauses cs) r u k e =
      let c = bound (onward.count (length cs)) (λ c. each (translate_clause onward) cs >>= λ ds. Ok (clauses ds)) k e in
      through (each (translate_clause onward) cs) clauses IsSpelt (λ ds h.
      let count = subst (λ n. n < 2 ^ 32) (sym (length-each (translate_clause onward) cs ds h)) (counted_is (length cs) c.0 c.1) in
      clauses_spelt ds count (each_made (translate_clause onward) (λ (x : CatchClause ℕ). EachInTag (IsUndone to env) x.tag) (IsSpellable IsClause) (λ x y p g. clause_again x y p g) cs ds u h)) k c.2
  again (block s) r u k e = through (numbered_block to t) block IsSpelt (λ c h. block_again t c u h) k e
  again (heap h) r u k e = through (translate_heap (numbers_in_32_bits to).number_of h) heap IsSpelt (λ g made. heap_spelt g (heap_fits h u g made)) k e
  again (value v) r u k e =
      through (translate_value (numbers_in_32_bits to).number_of v) value IsSpelt (λ w h. selected_spelt w (value_fits v u w h)) k e
  again (cast c) r u k e = cast_again c u k e
  again (i32 z) r u k e = at_once (i32 z) IsSpelt r k e
  again (i64 z) r u k e = at_once (i64 z) IsSpelt r k e
  again (f32 bits) r u k e = at_once (f32 bits) IsSpelt r k e
  again (f64 bits) r u k e = at_once (f64 bits) IsSpelt r k e
  again (v128 bits) r u k e = at_once (v128 bits) IsSpelt r k e
  again (lane n) r u k e = at_once (lane n) IsSpelt r k e
  again (lanes ns) r u k e = at_once (lanes ns) IsSpelt r k e
  again zero_byte r u k e = at_once zero_byte IsSpelt (0 ∷ [], refl) k e

  pub all_again : (js : List (Immediate ℕ Signature)) → AllByRecursion (λ j. IsRanged j) js → AllByRecursion Undone js → (ks : List RawImmediate) → translate_immediates onward js ≡ Ok ks →
      IsSpellable SpellsImmediates ks
  all_again [] r u ks e = at_once [] (IsSpellable SpellsImmediates) ([], refl) ks e
  all_again (j ∷ js) r u ks e =
      let first = bound (translate_immediate onward j) (λ k. each (translate_immediate onward) js >>= λ ks. Ok (k ∷ ks)) ks e in
      through (each (translate_immediate onward) js) (λ ks. first.0 ∷ ks) (IsSpellable SpellsImmediates) (λ ks h.
      let one = again j r.0 u.0 first.0 first.1 in
      let others = all_again js r.1 u.1 ks h in
      (one.0 ++ others.0, (one.0, others.0, refl, one.1, others.1))) ks first.2
