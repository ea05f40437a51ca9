-- An operator that has a name in an environment of the module has the same one by the module's own indices.
use Rattle.std.proofs.Common.{◌≡◌, ℕ, List, [], ◌∷◌, length, Result, Ok, true, refl, sym, ap, subst, ◌∙◌}
use Rattle.std.specs.Prelude.{Bool, Option, Some, None, Err, nat_lt}
use Rattle.std.specs.Result.{result_ok}
use Rattle.wasm_types.specs.declared.val_type.HeapType.{HeapType}
use Rattle.wasm_types.specs.declared.val_type.HeapType.TheVariants.{Abstract, Concrete}
use Rattle.wasm_types.specs.declared.val_type.ValType.{ValType}
use Rattle.wasm_types.specs.declared.val_type.ValType.TheVariants.{I32, I64, F32, F64, V128, Ref}
use Rattle.walrus_ir.specs.Types.{Signature, signature, signature_of}
use Rattle.wasm_numbers.specs.Results.{◌>>=◌, unless}
use Rattle.wasm_numbers.proofs.ResultLemmas.{bind_ok, some_or_ok, with_fault_ok}
use Rattle.wasm_operators.specs.declared.types.BlockType.{BlockType}
use Rattle.wasm_operators.specs.declared.types.BlockType.TheVariants.{Empty, Value, FuncType}
use Rattle.wasm_operators.specs.declared.types.Space.{Space}
use Rattle.wasm_operators.specs.declared.types.Space.TheVariants.{Tables, Types, Funcs, Globals, Memories, Elements, Data, Tags}
use Rattle.wasm_operators.specs.Operations.{Immediate, RawOperation, operation}
use Rattle.wasm_body.specs.declared.error.ParseError.{ParseError}
use Rattle.wasm_body.specs.declared.error.ParseError.TheVariants.{Index, NoSuchLabel, NotAFunctionType, RethrowOutsideHandler}
use Rattle.wasm_body.specs.Frames.{SequenceFrame, handler_at, outside}
use Rattle.wasm_body.specs.Translation.{translate, translate_heap, translate_immediates}
use Rattle.wasm_body.specs.Naming.{Environment, NamedOperation, block_types, id_at, name_block, function_type, open_label, handler_label, naming}
use Rattle.wasm_body.specs.Validity.{Checked, Refusal, demand}
use Rattle.wasm_body.proofs.Translation.Steps.{all_of}
use Rattle.wasm_body.proofs.Translation.Translations.{LeadAll, lead_all, translate_leads, same, translate_same}
use Rattle.wasm_typing.specs.Contexts.{function_type_in}
use Rattle.wasm_typing.specs.Matching.{holds_of, is_valid_value}
use Rattle.wasm_context.specs.Validation.{BodyContext, named_block_type, checked_index, raw_naming, raw_named, tag_signature}
use Rattle.wasm_context.specs.ValidationLaws.{IsModuleOfContext, SameNames}

abbrev Fine : {X : Type 0} → X → Checked X
Fine x = Ok x

ok_of_some : {X : Type 0} (r : Checked X) (x : X) → result_ok r ≡ Some x → r ≡ Ok x
ok_of_some {X} (Ok y) x h = let i : y ≡ x = cc h in ap (λ (z : X). Ok z) i
ok_of_some (Err e) x h = absurd cc

-- ---- the label of an open construct is unchanged

open_label_is : {A : Type 0} (fs : List (SequenceFrame A)) (n l : ℕ) → open_label fs n ≡ Ok l → Fine l ≡ Fine n
open_label_is fs n l e = let h = (bind_ok (unless (nat_lt n (length fs)) NoSuchLabel) (λ u. Ok n) l e).2 in let i : n ≡ l = cc in ap Fine (sym i)

handler_label_is : {A : Type 0} (fs : List (SequenceFrame A)) (n l : ℕ) → handler_label fs n ≡ Ok l → Fine l ≡ Fine n
handler_label_is fs n l e =
    let opened = bind_ok (open_label fs n) (λ m. unless (handler_at fs n) RethrowOutsideHandler >>= λ u. Ok n) l e in
    let h = (bind_ok (unless (handler_at fs n) RethrowOutsideHandler) (λ u. Ok n) l opened.2).2 in let i : n ≡ l = cc in ap Fine (sym i)

-- ---- indices and block types

module _ (env : Environment) (c : BodyContext) (alike : IsModuleOfContext env c) where
  found : (space : Space) (n m : ℕ) → id_at env space n ≡ Ok m → m ≡ n
  found space n m e = alike.index space n m (with_fault_ok Index (env.id_of space n) m e)

  index_leads : (space : Space) (n m : ℕ) → id_at env space n ≡ Ok m → Fine m ≡ checked_index c space n
  index_leads Tags n m e =
      let t = alike.tag n m (with_fault_ok Index (env.id_of Tags n) m e) in
      ap Fine (found Tags n m e) ∙ sym (ap (λ r. r >>= λ s. Fine n) t.1)
  index_leads Tables n m e = ap Fine (found Tables n m e)
  index_leads Types n m e = ap Fine (found Types n m e)
  index_leads Funcs n m e = ap Fine (found Funcs n m e)
  index_leads Globals n m e = ap Fine (found Globals n m e)
  index_leads Memories n m e = ap Fine (found Memories n m e)
  index_leads Elements n m e = ap Fine (found Elements n m e)
  index_leads Data n m e = ap Fine (found Data n m e)

  abbrev one : ValType ℕ → Signature
  one t = signature [] (t ∷ [])

  reference_leads : (b : Bool) (h : HeapType ℕ) (s : Signature) → name_block env (Value (Ref (record { nullable = b; heap_type = h }))) ≡ Ok s
      → Fine s ≡ named_block_type c (Value (Ref (record { nullable = b; heap_type = h })))
  reference_leads b (Abstract a) s e =
      let h : one (Ref (record { nullable = b; heap_type = Abstract a })) ≡ s = cc in ap Fine (sym h)
  reference_leads b (Concrete n) s e =
      let of : HeapType ℕ → ValType ℕ = λ x. Ref (record { nullable = b; heap_type = x }) in
      let v = bind_ok (translate_heap (id_at env) (Concrete n) >>= λ x. Ok (of x)) (λ u. Ok (one u)) s e in
      let w = bind_ok (translate_heap (id_at env) (Concrete n)) (λ x. Ok (of x)) v.0 v.1 in
      let i = bind_ok (id_at env Types n) (λ m. Ok (Concrete m)) w.0 w.1 in
      let t = alike.type n i.0 (with_fault_ok Index (env.id_of Types n) i.0 i.1) in
      let same_index : i.0 ≡ n = found Types n i.0 i.1 in
      let valid : is_valid_value c.operands (of (Concrete n)) ≡ true = ap (holds_of (λ d. true)) t.1 in
      let a : Concrete i.0 ≡ w.0 = cc i.2 in
      let b : of w.0 ≡ v.0 = cc w.2 in
      let d : one v.0 ≡ s = cc v.2 in
      sym (ap (λ x. demand x >>= λ u. Fine (one (of (Concrete n)))) valid
      ∙ ap (λ x. Fine (one (of (Concrete x)))) (sym same_index) ∙ ap (λ x. Fine (one (of x))) a ∙ ap (λ x. Fine (one x)) b ∙ ap Fine d)

  -- a value type of the module is valid, and stays as it is
  value_leads : (t : ValType ℕ) (s : Signature) → name_block env (Value t) ≡ Ok s → Fine s ≡ named_block_type c (Value t)
  value_leads I32 s e = let h : one I32 ≡ s = cc in ap Fine (sym h)
  value_leads I64 s e = let h : one I64 ≡ s = cc in ap Fine (sym h)
  value_leads F32 s e = let h : one F32 ≡ s = cc in ap Fine (sym h)
  value_leads F64 s e = let h : one F64 ≡ s = cc in ap Fine (sym h)
  value_leads V128 s e = let h : one V128 ≡ s = cc in ap Fine (sym h)
  value_leads (Ref r) s e = reference_leads r.nullable r.heap_type s e

  block_leads : (b : BlockType) (s : Signature) → name_block env b ≡ Ok s → Fine s ≡ named_block_type c b
  block_leads Empty s e = let h : signature [] [] ≡ s = cc in ap Fine (sym h)
  block_leads (Value t) s e = value_leads t s e
  block_leads (FuncType n) s e =
      let i = bind_ok (id_at env Types n) (function_type env) s e in
      let at : function_type env n ≡ Ok s = subst (λ x. function_type env x ≡ Ok s) (found Types n i.0 i.1) i.2 in
      let known : signature_of env.types n ≡ Some s = some_or_ok (signature_of env.types n) NotAFunctionType s at in
      sym (ok_of_some (function_type_in c.operands n) s (sym (alike.function n) ∙ known))

  module _ {A : Type 0} (fs : List (SequenceFrame A)) where
    leads : LeadAll (naming env fs) same (raw_naming c)
    leads = record {
      indices = index_leads;
      locals = λ n m e. ap Fine (alike.local n m (with_fault_ok Index (env.local_of n) m e));
      labels = open_label_is fs;
      handlers = handler_label_is fs;
      outers = open_label_is (outside fs);
      numbers = λ n m e. let h : n ≡ m = cc in ap Fine (sym h);
      alignments = λ n. refl;
      counts = λ n u e. refl;
    }

    pub same_name : (o : RawOperation) (n : NamedOperation) → translate (naming env fs) o ≡ Ok n → raw_named c o ≡ Ok n
    same_name o n e =
        let made : List (Immediate ℕ Signature) → Result NamedOperation ParseError = λ is. Ok (operation o.opcode is) in
        let made_here : List (Immediate ℕ Signature) → Checked NamedOperation = λ is. Ok (operation o.opcode is) in
        let is = bind_ok (translate_immediates (naming env fs) o.immediates) made n e in
        let blocks = all_of (λ (b : BlockType). (s : Signature) → name_block env b ≡ Ok s → Fine s ≡ named_block_type c b) block_leads (block_types o.immediates) in
        let stays = translate_leads (naming env fs) same (raw_naming c) o.immediates (lead_all (naming env fs) same (raw_naming c) leads o.immediates blocks) is.0 is.1 in
        let h : operation o.opcode is.0 ≡ n = cc is.2 in
        ap (λ r. r >>= made_here) (sym stays ∙ translate_same is.0) ∙ ap Fine h
