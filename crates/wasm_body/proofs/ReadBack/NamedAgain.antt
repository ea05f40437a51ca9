-- An operator that is written with numbers has its name again, by maps that undo the numbers.
use Rattle.std.proofs.Common.{◌≡◌, ℕ, List, [], ◌∷◌, Option, Some, None, Ok, refl, sym, ap, ◌∙◌}
use Rattle.std.specs.List.{AllByRecursion}
use Rattle.wasm_types.specs.declared.val_type.HeapType.{HeapType}
use Rattle.wasm_types.specs.declared.val_type.HeapType.TheVariants.{Abstract, Concrete}
use Rattle.wasm_types.specs.declared.val_type.ValType.{ValType}
use Rattle.wasm_types.specs.declared.val_type.ValType.TheVariants.{I32, I64, F32, F64, V128, Ref}
use Rattle.walrus_ir.specs.declared.val_type.InstrSeqType.{InstrSeqType}
use Rattle.walrus_ir.specs.declared.val_type.InstrSeqType.TheVariants.{Simple, MultiValue}
use Rattle.walrus_ir.specs.Types.{Signature, signature, signature_of, signature_of_type}
use Rattle.wasm_operators.specs.declared.types.BlockType.{BlockType}
use Rattle.wasm_operators.specs.declared.types.BlockType.TheVariants.{Empty, Value, FuncType}
use Rattle.wasm_operators.specs.declared.types.Space.{Space}
use Rattle.wasm_operators.specs.declared.types.Space.TheVariants.{Types, Memories, Tags}
use Rattle.wasm_operators.specs.Operations.{CatchClause, Immediate, index, local, label, handler, outer, number, access, branch_table, clauses, block, heap, value, cast, RawOperation}
use Rattle.wasm_body.specs.declared.error.EmitError.{EmitError}
use Rattle.wasm_body.specs.declared.error.ParseError.{ParseError}
use Rattle.wasm_body.specs.declared.error.ParseError.TheVariants.{Index, NotAFunctionType}
use Rattle.wasm_numbers.specs.Results.{some_or, with_fault}
use Rattle.wasm_body.specs.Frames.{SequenceFrame, outside}
use Rattle.wasm_body.specs.Translation.{Translation, translate, translate_immediates, translate_heap, translate_value}
use Rattle.wasm_body.specs.Naming.{Environment, NamedOperation, naming, id_at, name_block, open_label, handler_label, block_types}
use Rattle.wasm_body.specs.FlatText.{then_by}
use Rattle.wasm_body.specs.Bytes.{Numbers, numbers_in_32_bits, numbered_block, numbering}
use Rattle.wasm_body.specs.ReadBack.{EachInHeap, EachInValue, EachInTag, EachIn, IsUndone, IsUndoneLocal, IsUndoneType}
use Rattle.wasm_body.proofs.Translation.Steps.{Leads, bound, all_of, after_one}
use Rattle.wasm_body.proofs.Translation.Translations.{LeadsAt, LeadsHeap, LeadsValue, LeadsTag, LeadsClause, translate_leads}
use Rattle.wasm_body.proofs.Bytes.Fitting.{fitting_is, fitting_result}
use Rattle.wasm_body.proofs.NormalForm.Exponents.{exponent_of-pow}
use Rattle.wasm_body.proofs.NormalForm.WrittenTexts.{named_by}
use Rattle.wasm_body.proofs.ReadBack.FrameNames.{map_frames, ruling, open_frames, handler_label_frames, outer_frames}

module _ {A B : Type 0} (env : Environment) (to : Numbers) (t : InstrSeqType) (g : A → B) (fs : List (SequenceFrame A)) where
  abbrev there : Translation ℕ Signature ℕ BlockType EmitError
  there = named_by (then_by (numbering to)) t

  abbrev back : Translation ℕ BlockType ℕ Signature ParseError
  back = naming env fs

  abbrev ruled : Translation ℕ Signature ℕ Signature ParseError
  ruled = ruling (map_frames g fs)

  index_back : (space : Space) (id : ℕ) → IsUndone to env space id → Leads (there.index space) (back.index space) (ruled.index space) id
  index_back space id u n e = ap (with_fault Index) (u n (fitting_result (to.number_of space id) n e).is_result)

  local_back : (id : ℕ) → IsUndoneLocal to env id → Leads there.local back.local ruled.local id
  local_back id u n e = ap (with_fault Index) (u n (fitting_result (to.local_number id) n e).is_result)

  heap_back : (h : HeapType ℕ) → EachInHeap (IsUndone to env) h → LeadsHeap there.index back.index ruled.index h
  heap_back (Abstract a) u = tt
  heap_back (Concrete n) u = index_back Types n u

  value_back : (v : ValType ℕ) → EachInValue (IsUndone to env) v → LeadsValue there.index back.index ruled.index v
  value_back (Ref r) u = heap_back r.heap_type u
  value_back _ u = tt

  tag_back : (tag : Option ℕ) → EachInTag (IsUndone to env) tag → LeadsTag there.index back.index ruled.index tag
  tag_back None u = tt
  tag_back (Some n) u = index_back Tags n u

  label_back : (l : ℕ) → Leads there.label back.label ruled.label l
  label_back l q e = ap (open_label fs) (fitting_is l q e).same ∙ sym (open_frames g fs l)

  handler_back : (n : ℕ) → Leads there.handler back.handler ruled.handler n
  handler_back n q e = ap (handler_label fs) (fitting_is n q e).same ∙ sym (handler_label_frames g fs n)

  outer_back : (n : ℕ) → Leads there.outer back.outer ruled.outer n
  outer_back n q e = ap (open_label (outside fs)) (fitting_is n q e).same ∙ sym (outer_frames g fs n)

  number_back : (n : ℕ) → Leads there.number back.number ruled.number n
  number_back n q e = ap Ok (fitting_is n q e).same

  clauses_back : (cs : List (CatchClause ℕ)) → AllByRecursion (λ (c : CatchClause ℕ). EachInTag (IsUndone to env) c.tag) cs → AllByRecursion (LeadsClause there back ruled) cs
  clauses_back [] u = tt
  clauses_back (c ∷ cs) u = ((tag_back c.tag u.0, label_back c.label), clauses_back cs u.1)

  -- the number of a type is read as the type
  heap_named : (h g : HeapType ℕ) → EachInHeap (IsUndone to env) h → translate_heap (numbers_in_32_bits to).number_of h ≡ Ok g → translate_heap (id_at env) g ≡ Ok h
  heap_named (Abstract a) q u e = let same : Abstract a ≡ q = cc e in ap (translate_heap (id_at env)) (sym same)
  heap_named (Concrete n) q u e =
      let m = bound ((numbers_in_32_bits to).number_of Types n) (λ m. Ok (Concrete m)) q e in
      let same : Concrete m.0 ≡ q = cc m.2 in
      ap (translate_heap (id_at env)) (sym same) ∙ after_one (id_at env Types m.0) (Ok n) (λ k. Ok (Concrete k)) (index_back Types n u m.0 m.1)

  value_named : (v w : ValType ℕ) → EachInValue (IsUndone to env) v → translate_value (numbers_in_32_bits to).number_of v ≡ Ok w → translate_value (id_at env) w ≡ Ok v
  value_named I32 w u e = let same : I32 ≡ w = cc e in ap (translate_value (id_at env)) (sym same)
  value_named I64 w u e = let same : I64 ≡ w = cc e in ap (translate_value (id_at env)) (sym same)
  value_named F32 w u e = let same : F32 ≡ w = cc e in ap (translate_value (id_at env)) (sym same)
  value_named F64 w u e = let same : F64 ≡ w = cc e in ap (translate_value (id_at env)) (sym same)
  value_named V128 w u e = let same : V128 ≡ w = cc e in ap (translate_value (id_at env)) (sym same)
  value_named (Ref r) w u e =
      let to_ref : HeapType ℕ → ValType ℕ = λ h. Ref (record { nullable = r.nullable; heap_type = h }) in
      let h = bound (translate_heap (numbers_in_32_bits to).number_of r.heap_type) (λ h. Ok (to_ref h)) w e in
      let same : to_ref h.0 ≡ w = cc h.2 in
      ap (translate_value (id_at env)) (sym same)
      ∙ after_one (translate_heap (id_at env) h.0) (Ok r.heap_type) (λ k. Ok (to_ref k)) (heap_named r.heap_type h.0 u h.1)

  block_back : (t : InstrSeqType) (s : Signature) → IsUndoneType to env t → signature_of_type env.types t ≡ Some s → (c : BlockType) → numbered_block to t ≡ Ok c → name_block env c ≡ Ok s
  block_back (Simple None) s u h c e =
      let same : Empty ≡ c = cc e in
      let is : signature [] [] ≡ s = cc h in
      ap (name_block env) (sym same) ∙ ap Ok is
  block_back (Simple (Some v)) s u h c e =
      let w = bound (translate_value (numbers_in_32_bits to).number_of v) (λ w. Ok (Value w)) c e in
      let same : Value w.0 ≡ c = cc w.2 in
      let is : signature [] (v ∷ []) ≡ s = cc h in
      ap (name_block env) (sym same)
      ∙ (after_one (translate_value (id_at env) w.0) (Ok v) (λ x. Ok (signature [] (x ∷ []))) (value_named v w.0 u w.1) ∙ ap Ok is)
  block_back (MultiValue id) s u h c e =
      let n = bound ((numbers_in_32_bits to).number_of Types id) (λ n. Ok (FuncType n)) c e in
      let same : FuncType n.0 ≡ c = cc n.2 in
      ap (name_block env) (sym same)
      ∙ (after_one (id_at env Types n.0) (Ok id) (λ k. some_or (signature_of env.types k) NotAFunctionType) (index_back Types id u n.0 n.1)
      ∙ ap (λ o. some_or o NotAFunctionType) h)

  abbrev UndoneAt : Immediate ℕ Signature → Type 0
  UndoneAt i = EachIn (IsUndone to env) (IsUndoneLocal to env) (λ s. IsUndoneType to env t) i

  abbrev IsSignature : Signature → Type 0
  IsSignature s = signature_of_type env.types t ≡ Some s

  all_back : (is : List (Immediate ℕ Signature)) → AllByRecursion UndoneAt is → AllByRecursion IsSignature (block_types is) → AllByRecursion (LeadsAt there back ruled) is
  all_back [] u h = tt
  all_back (block s ∷ is) u h = (block_back t s u.0 h.0, all_back is u.1 h.1)
  all_back (index space n ∷ is) u h = (index_back space n u.0, all_back is u.1 h)
  all_back (local n ∷ is) u h = (local_back n u.0, all_back is u.1 h)
  all_back (label l ∷ is) u h = (label_back l, all_back is u.1 h)
  all_back (handler n ∷ is) u h = (handler_back n, all_back is u.1 h)
  all_back (outer n ∷ is) u h = (outer_back n, all_back is u.1 h)
  all_back (number n ∷ is) u h = (number_back n, all_back is u.1 h)
  all_back (access a ∷ is) u h = ((index_back Memories a.memory u.0, exponent_of-pow a.alignment), all_back is u.1 h)
  all_back (branch_table ts d ∷ is) u h = (((λ k e. refl), all_of (Leads there.label back.label ruled.label) label_back ts, label_back d), all_back is u.1 h)
  all_back (clauses cs ∷ is) u h = (((λ k e. refl), clauses_back cs u.0), all_back is u.1 h)
  all_back (heap x ∷ is) u h = (heap_back x u.0, all_back is u.1 h)
  all_back (value v ∷ is) u h = (value_back v u.0, all_back is u.1 h)
  all_back (cast c ∷ is) u h = ((label_back c.label, heap_back c.source u.0.0, heap_back c.target u.0.1), all_back is u.1 h)
  all_back (_ ∷ is) u h = (tt, all_back is u.1 h)

  -- The numbered operator has the name, if the name keeps the rules.
  pub named_again : (o : NamedOperation) (z : RawOperation) → translate there o ≡ Ok z → AllByRecursion UndoneAt o.immediates → AllByRecursion IsSignature (block_types o.immediates) →
      translate_immediates ruled o.immediates ≡ Ok o.immediates → translate back z ≡ Ok o
  named_again o z e u h keeps =
      let first = bound (translate_immediates there o.immediates) (λ is. Ok (record { opcode = o.opcode; immediates = is })) z e in
      let same : record { opcode = o.opcode; immediates = first.0 } ≡ z = cc first.2 in
      ap (translate back) (sym same)
      ∙ after_one (translate_immediates back first.0) (Ok o.immediates) (λ is. Ok (record { opcode = o.opcode; immediates = is }))
      (translate_leads there back ruled o.immediates (all_back o.immediates u h) first.0 first.1 ∙ keeps)
