-- An operator that has a name in an environment of the module has the same one by the module's own indices, with the indices of its locals.
use Rattle.std.proofs.Common.{◌≡◌, ℕ, List, [], ◌∷◌, map, true, Option, Some, None, Result, Ok, Err, refl, sym, ap, ◌∙◌, subst}
use Rattle.std.specs.Prelude.{Bool, option_and_then, slice_get}
use Rattle.std.specs.List.{AllByRecursion}
use Rattle.std.specs.Result.{result_ok}
use Rattle.wasm_types.specs.declared.val_type.HeapType.{HeapType}
use Rattle.wasm_types.specs.declared.val_type.HeapType.TheVariants.{Abstract, Concrete}
use Rattle.wasm_types.specs.declared.val_type.ValType.{ValType}
use Rattle.wasm_types.specs.declared.val_type.ValType.TheVariants.{I32, I64, F32, F64, V128, Ref}
use Rattle.walrus_ir.specs.Types.{Signature, signature, signature_of}
use Rattle.wasm_numbers.specs.Results.{◌>>=◌}
use Rattle.wasm_numbers.proofs.ResultLemmas.{bind_ok, some_or_ok, with_fault_ok}
use Rattle.wasm_operators.specs.declared.types.BlockType.{BlockType}
use Rattle.wasm_operators.specs.declared.types.BlockType.TheVariants.{Empty, Value, FuncType}
use Rattle.wasm_operators.specs.declared.types.Space.{Space}
use Rattle.wasm_operators.specs.declared.types.Space.TheVariants.{Types, Tags}
use Rattle.wasm_operators.specs.Operations.{Immediate, RawOperation, operation}
use Rattle.wasm_body.specs.declared.error.ParseError.{ParseError}
use Rattle.wasm_body.specs.declared.error.ParseError.TheVariants.{Index, NotAFunctionType}
use Rattle.wasm_body.specs.Frames.{SequenceFrame, outside}
use Rattle.wasm_body.specs.Naming.{Environment, NamedOperation, Occurrence, block_types, id_at, name_block, function_type, naming}
use Rattle.wasm_body.specs.NormalForm.{typing_of, parameters_or_none, name_at}
use Rattle.wasm_body.specs.Parsing.Accepted.{mark, placed, Lawful}
use Rattle.wasm_body.specs.SourceTree.{Body}
use Rattle.wasm_body.specs.Translation.{translate, translate_heap, translate_immediates}
use Rattle.wasm_body.specs.Validity.{Checked, demand, required}
use Rattle.wasm_body.proofs.Bytes.LawfulTyped.{NamedSomewhere, named_somewhere}
use Rattle.wasm_body.proofs.NormalForm.KeptNames.{open_same, handler_same}
use Rattle.wasm_body.proofs.Parsing.NamingLemmas.{named_parts}
use Rattle.wasm_body.proofs.Structure.Along.{AllMarked}
use Rattle.wasm_body.proofs.Translation.Steps.{all_of}
use Rattle.wasm_body.proofs.Translation.Translations.{LeadAll, lead_all, translate_leads}
use Rattle.wasm_typing.specs.Contexts.{function_type_in}
use Rattle.wasm_typing.specs.Matching.{holds_of, is_valid_value}
use Rattle.wasm_context.specs.Validation.{BodyContext, named_block_type, checked_index, raw_naming, raw_named, parameters_of, typing_in}
use Rattle.renamed_locals.specs.RenamedLocals.{renamed, renamed_at}
use Rattle.written_validity.specs.SharedModules.{SharesModule, HasIndices}
use Rattle.written_validity.proofs.NamedSteps.{HaveNames}
use Rattle.written_validity.proofs.RenamedNames.{Fine, renaming, renaming_is, ok_of_some}

parameters_alike : (r : Checked Signature) → parameters_of r ≡ parameters_or_none (result_ok r)
parameters_alike (Ok s) = refl
parameters_alike (Err e) = refl

module _ (env : Environment) (c : BodyContext) (alike : SharesModule env c) where
  -- ---- the parameters of tags

  tag_alike : (tag : ℕ) (type : Option ℕ) → slice_get c.tags tag ≡ type
      → parameters_of (required type >>= λ t. function_type_in c.operands t) ≡ parameters_or_none (option_and_then (signature_of env.types) type)
  tag_alike tag None e = refl
  tag_alike tag (Some t) e = parameters_alike (function_type_in c.operands t) ∙ sym (ap parameters_or_none (alike.tag_type tag t e))

  pub same_tags : (tag : ℕ) → (typing_in c).tag_parameters tag ≡ (typing_of env).tag_parameters tag
  same_tags tag =
      tag_alike tag (slice_get c.tags tag) refl ∙ sym (ap (λ ts. parameters_or_none (option_and_then (signature_of env.types) (slice_get ts tag))) alike.tags)

  -- ---- indices and block types

  known : (space : Space) (n m : ℕ) → id_at env space n ≡ Ok m → env.id_of space n ≡ Ok m
  known space n m e = with_fault_ok Index (env.id_of space n) m e

  found : (space : Space) (n m : ℕ) → id_at env space n ≡ Ok m → m ≡ n
  found space n m e = alike.index space n m (known space n m e)

  index_leads : (space : Space) (n m : ℕ) → id_at env space n ≡ Ok m → Fine m ≡ checked_index c space n
  index_leads Tags n m e = ap Fine (found Tags n m e) ∙ sym (ap (λ r. r >>= λ s. Fine n) (alike.tag n m (known Tags n m e)).1)
  index_leads space n m e = ap Fine (found space n m e)

  abbrev one : ValType ℕ → Signature
  one t = signature [] (t ∷ [])

  reference_leads : (nullable : Bool) (h : HeapType ℕ) (s : Signature) → name_block env (Value (Ref (record { nullable = nullable; heap_type = h }))) ≡ Ok s
      → Fine s ≡ named_block_type c (Value (Ref (record { nullable = nullable; heap_type = h })))
  reference_leads nullable (Abstract a) s e = let h : one (Ref (record { nullable = nullable; heap_type = Abstract a })) ≡ s = cc in ap Fine (sym h)
  reference_leads nullable (Concrete n) s e =
      let of : HeapType ℕ → ValType ℕ = λ x. Ref (record { nullable = nullable; heap_type = x }) in
      let v = bind_ok (translate_heap (id_at env) (Concrete n) >>= λ x. Ok (of x)) (λ u. Ok (one u)) s e in
      let w = bind_ok (translate_heap (id_at env) (Concrete n)) (λ x. Ok (of x)) v.0 v.1 in
      let i = bind_ok (id_at env Types n) (λ m. Ok (Concrete m)) w.0 w.1 in
      let t = alike.type n i.0 (known Types n i.0 i.1) in
      let same_index : i.0 ≡ n = found Types n i.0 i.1 in
      let valid : is_valid_value c.operands (of (Concrete n)) ≡ true = ap (holds_of (λ d. true)) t.1 in
      let a : Concrete i.0 ≡ w.0 = cc i.2 in
      let b : of w.0 ≡ v.0 = cc w.2 in
      let d : one v.0 ≡ s = cc v.2 in
      sym (ap (λ x. demand x >>= λ u. Fine (one (of (Concrete n)))) valid
      ∙ ap (λ x. Fine (one (of (Concrete x)))) (sym same_index) ∙ ap (λ x. Fine (one (of x))) a ∙ ap (λ x. Fine (one x)) b ∙ ap Fine d)

  block_leads : (b : BlockType) (s : Signature) → name_block env b ≡ Ok s → Fine s ≡ named_block_type c b
  block_leads Empty s e = let h : signature [] [] ≡ s = cc in ap Fine (sym h)
  block_leads (Value I32) s e = let h : one I32 ≡ s = cc in ap Fine (sym h)
  block_leads (Value I64) s e = let h : one I64 ≡ s = cc in ap Fine (sym h)
  block_leads (Value F32) s e = let h : one F32 ≡ s = cc in ap Fine (sym h)
  block_leads (Value F64) s e = let h : one F64 ≡ s = cc in ap Fine (sym h)
  block_leads (Value V128) s e = let h : one V128 ≡ s = cc in ap Fine (sym h)
  block_leads (Value (Ref r)) s e = reference_leads r.nullable r.heap_type s e
  block_leads (FuncType n) s e =
      let i = bind_ok (id_at env Types n) (function_type env) s e in
      let at : function_type env n ≡ Ok s = subst (λ x. function_type env x ≡ Ok s) (found Types n i.0 i.1) i.2 in
      let there : signature_of env.types n ≡ Some s = some_or_ok (signature_of env.types n) NotAFunctionType s at in
      sym (ok_of_some (function_type_in c.operands n) s (sym (alike.function n i.0 (known Types n i.0 i.1)) ∙ there))

  -- ---- an operator

  module _ (index_of : ℕ → ℕ) (own : HasIndices env index_of) (fs : List (SequenceFrame Occurrence)) where
    leads : LeadAll (naming env fs) (renaming index_of) (raw_naming c)
    leads = record {
      indices = index_leads;
      locals = λ n id e. ap Fine (own n id (with_fault_ok Index (env.local_of n) id e));
      labels = λ n l e. ap Fine (open_same fs n l e);
      handlers = λ n l e. ap Fine (handler_same fs n l e);
      outers = λ n l e. ap Fine (open_same (outside fs) n l e);
      numbers = λ n m e. let h : n ≡ m = cc in ap Fine (sym h);
      alignments = λ n. refl;
      counts = λ n u e. refl;
    }

    pub source_name : (o : RawOperation) (n : NamedOperation) → translate (naming env fs) o ≡ Ok n → raw_named c o ≡ Ok (renamed index_of n)
    source_name o n e =
        let made : List (Immediate ℕ Signature) → Result NamedOperation ParseError = λ is. Ok (operation o.opcode is) in
        let made_here : List (Immediate ℕ Signature) → Checked NamedOperation = λ is. Ok (operation o.opcode is) in
        let is = bind_ok (translate_immediates (naming env fs) o.immediates) made n e in
        let blocks = all_of (λ (b : BlockType). (s : Signature) → name_block env b ≡ Ok s → Fine s ≡ named_block_type c b) block_leads (block_types o.immediates) in
        let stays =
        translate_leads (naming env fs) (renaming index_of) (raw_naming c) o.immediates (lead_all (naming env fs) (renaming index_of) (raw_naming c) leads o.immediates blocks) is.0 is.1 in
        let h : operation o.opcode is.0 ≡ n = cc is.2 in
        ap (λ r. r >>= made_here) (sym stays ∙ renaming_is index_of is.0) ∙ ap (λ k. Fine (renamed index_of k)) h

-- ---- the operators of a body

-- an operator that has its name in some frames
abbrev pub IsNamedHere : Environment → Occurrence → Type 0
IsNamedHere env x = (fs : List (SequenceFrame Occurrence)) × (translate (naming env fs) x.spelt ≡ Ok x.named)

named_here : (env : Environment) (xs : List Occurrence) → AllMarked (NamedSomewhere env) (map mark xs) → AllByRecursion (IsNamedHere env) xs
named_here env [] h = tt
named_here env (x ∷ xs) h = ((h.0.0, (named_parts env h.0.0 x.spelt x.named h.0.1).translated), named_here env xs h.1)

pub all_named_here : (env : Environment) (xs : List Occurrence) (b : Body Occurrence) → Lawful env xs b → AllByRecursion (IsNamedHere env) xs
all_named_here env xs b lawful = named_here env xs (named_somewhere env xs b lawful)

module _ (env : Environment) (c : BodyContext) (alike : SharesModule env c) (index_of : ℕ → ℕ) (own : HasIndices env index_of) where
  source_names : (xs : List Occurrence) → AllByRecursion (IsNamedHere env) xs → HaveNames (typing_of env) c (same_tags env c alike) (map placed xs) (map (renamed_at index_of) (map name_at xs))
  source_names [] h = tt
  source_names (x ∷ xs) h = (source_name env c alike index_of own h.0.0 x.spelt x.named h.0.1, source_names xs h.1)

  pub all_source_names : (xs : List Occurrence) (b : Body Occurrence) → Lawful env xs b → HaveNames (typing_of env) c (same_tags env c alike) (map placed xs) (map (renamed_at index_of) (map name_at xs))
  all_source_names xs b lawful = source_names xs (all_named_here env xs b lawful)
