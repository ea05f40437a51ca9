-- An operator that is written has its name by the indices of the module, with the new numbers of its locals.
use Rattle.std.proofs.Common.{◌≡◌, ℕ, List, [], ◌∷◌, Bool, true, Some, None, Ok, refl, sym, ap, ◌∙◌}
use Rattle.std.specs.List.{AllByRecursion}
use Rattle.wasm_types.specs.declared.val_type.HeapType.{HeapType}
use Rattle.wasm_types.specs.declared.val_type.HeapType.TheVariants.{Abstract, Concrete}
use Rattle.wasm_types.specs.declared.val_type.ValType.{ValType}
use Rattle.wasm_types.specs.declared.val_type.ValType.TheVariants.{Ref}
use Rattle.walrus_ir.specs.Types.{Signature, signature, signature_of, signature_of_type}
use Rattle.walrus_ir.specs.declared.val_type.InstrSeqType.{InstrSeqType}
use Rattle.walrus_ir.specs.declared.val_type.InstrSeqType.TheVariants.{Simple, MultiValue}
use Rattle.wasm_numbers.specs.Results.{◌>>=◌}
use Rattle.wasm_operators.specs.declared.types.BlockType.{BlockType}
use Rattle.wasm_operators.specs.declared.types.BlockType.TheVariants.{Empty, Value, FuncType}
use Rattle.wasm_operators.specs.declared.types.Space.{Space}
use Rattle.wasm_operators.specs.declared.types.Space.TheVariants.{Types, Tags}
use Rattle.wasm_operators.specs.Operations.{RawOperation, operation}
use Rattle.wasm_body.specs.declared.error.EmitError.{EmitError}
use Rattle.wasm_body.specs.Bytes.{Numbers, numbers_in_32_bits, numbered_block, numbering}
use Rattle.wasm_body.specs.FlatText.{then_by}
use Rattle.wasm_body.specs.Naming.{Environment, NamedOperation, block_types}
use Rattle.wasm_body.specs.NormalForm.{typing_of}
use Rattle.wasm_body.specs.Translation.{Translation, translate, translate_heap, translate_immediates, translate_value}
use Rattle.wasm_body.specs.Typed.{HasSignatures}
use Rattle.wasm_body.specs.Validity.{demand}
use Rattle.wasm_body.proofs.Bytes.Fitting.{fitting_is, fitting_result}
use Rattle.wasm_body.proofs.NormalForm.Exponents.{exponent_of-pow}
use Rattle.wasm_body.proofs.NormalForm.WrittenTexts.{named_by}
use Rattle.wasm_body.proofs.Translation.Steps.{Leads, bound}
use Rattle.wasm_body.proofs.Translation.Translations.{LeadAll, lead_all, translate_leads}
use Rattle.wasm_typing.specs.Contexts.{function_type_in}
use Rattle.wasm_typing.specs.Matching.{holds_of, is_valid_value}
use Rattle.wasm_context.specs.Validation.{BodyContext, named_block_type, checked_index, raw_naming, raw_named}
use Rattle.renamed_locals.specs.RenamedLocals.{renamed, context_with_locals}
use Rattle.renamed_locals.specs.DeclaredLocals.{TypesKeepNumbers}
use Rattle.renamed_locals.proofs.NumberedLocals.{value_kept}
use Rattle.written_validity.specs.SharedModules.{SharesModule}
use Rattle.written_validity.proofs.RenamedNames.{Fine, renaming, renaming_is, ok_of_some}

-- ---- an operator that is written

module _ (env : Environment) (c : BodyContext) (alike : SharesModule env c) (to : Numbers) (numbers : (space : Space) (id n : ℕ) → to.number_of space id ≡ Ok n → env.id_of space n ≡ Ok id)
    (f : ℕ → ℕ) (local_numbers : (id n : ℕ) → to.local_number id ≡ Ok n → n ≡ f id) (locals : List (ValType ℕ)) where
  -- the context of the function that is written
  abbrev there : BodyContext
  there = record c { operands = context_with_locals c.operands locals }

  same_number : (space : Space) (id n : ℕ) → to.number_of space id ≡ Ok n → n ≡ id
  same_number space id n e = sym (alike.index space n id (numbers space id n e))

  types_keep : TypesKeepNumbers to
  types_keep id n e = same_number Types id n e

  checked : (space : Space) (n id : ℕ) → env.id_of space n ≡ Ok id → checked_index there space n ≡ Fine n
  checked Tags n id e = ap (λ r. r >>= λ s. Fine n) (alike.tag n id e).1
  checked _ n id e = refl

  module _ (t : InstrSeqType) where
    abbrev written : Translation ℕ Signature ℕ BlockType EmitError
    written = named_by (then_by (numbering to)) t

    index_named : (space : Space) (id : ℕ) → Leads (written.index space) (checked_index there space) ((renaming f).index space) id
    index_named space id n e =
        let number = (fitting_result (to.number_of space id) n e).is_result in
        checked space n id (numbers space id n number) ∙ ap Fine (same_number space id n number)

    all_named : LeadAll written (raw_naming there) (renaming f)
    all_named = record {
      indices = index_named;
      locals = λ id n e. ap Fine (local_numbers id n (fitting_result (to.local_number id) n e).is_result);
      labels = λ l q e. ap Fine (fitting_is l q e).same;
      handlers = λ n q e. ap Fine (fitting_is n q e).same;
      outers = λ n q e. ap Fine (fitting_is n q e).same;
      numbers = λ n q e. ap Fine (fitting_is n q e).same;
      alignments = λ e. exponent_of-pow e;
      counts = λ n u e. refl;
    }

  -- a type that has a number is a type of the module
  heap_valid : (nullable : Bool) (h g : HeapType ℕ) → translate_heap (numbers_in_32_bits to).number_of h ≡ Ok g → is_valid_value there.operands (Ref (record { nullable = nullable; heap_type = h })) ≡ true
  heap_valid nullable (Abstract a) g e = refl
  heap_valid nullable (Concrete id) g e =
      let n = bound ((numbers_in_32_bits to).number_of Types id) (λ n. Ok (Concrete n)) g e in
      let number = (fitting_result (to.number_of Types id) n.0 n.1).is_result in
      let type = alike.type n.0 id (numbers Types id n.0 number) in
      ap (λ k. is_valid_value there.operands (Ref (record { nullable = nullable; heap_type = Concrete k }))) (sym (same_number Types id n.0 number))
      ∙ ap (holds_of (λ d. true)) type.1

  value_valid : (v w : ValType ℕ) → translate_value (numbers_in_32_bits to).number_of v ≡ Ok w → is_valid_value there.operands v ≡ true
  value_valid (Ref r) w e =
      let h = bound (translate_heap (numbers_in_32_bits to).number_of r.heap_type) (λ h. Ok (Ref (record { nullable = r.nullable; heap_type = h }))) w e in
      heap_valid r.nullable r.heap_type h.0 h.1
  value_valid _ w e = refl

  block_named : (t : InstrSeqType) (s : Signature) → signature_of_type env.types t ≡ Some s → (b : BlockType) → numbered_block to t ≡ Ok b → named_block_type there b ≡ Ok s
  block_named (Simple None) s h b e =
      let made : Empty ≡ b = cc e in
      let is : signature [] [] ≡ s = cc h in
      ap (named_block_type there) (sym made) ∙ ap Fine is
  block_named (Simple (Some v)) s h b e =
      let w = bound (translate_value (numbers_in_32_bits to).number_of v) (λ w. Ok (Value w)) b e in
      let made : Value w.0 ≡ b = cc w.2 in
      let is : signature [] (v ∷ []) ≡ s = cc h in
      ap (named_block_type there) (sym made) ∙ ap (λ u. named_block_type there (Value u)) (value_kept to types_keep v w.0 w.1)
      ∙ ap (λ b. demand b >>= λ u. Fine (signature [] (v ∷ []))) (value_valid v w.0 w.1) ∙ ap Fine is
  block_named (MultiValue id) s h b e =
      let n = bound ((numbers_in_32_bits to).number_of Types id) (λ n. Ok (FuncType n)) b e in
      let made : FuncType n.0 ≡ b = cc n.2 in
      let number = (fitting_result (to.number_of Types id) n.0 n.1).is_result in
      let known = numbers Types id n.0 number in
      ap (named_block_type there) (sym made)
      ∙ ok_of_some (function_type_in there.operands n.0) s (sym (alike.function n.0 id known) ∙ ap (signature_of env.types) (same_number Types id n.0 number) ∙ h)

  module _ (t : InstrSeqType) where
    blocks_named : (ss : List Signature) → HasSignatures (typing_of env) t ss → AllByRecursion (Leads (written t).block (named_block_type there) (renaming f).block) ss
    blocks_named [] h = tt
    blocks_named (s ∷ ss) h = (block_named t s h.0, blocks_named ss h.1)

    pub written_name : (o : NamedOperation) (z : RawOperation) → translate (written t) o ≡ Ok z → HasSignatures (typing_of env) t (block_types o.immediates) → raw_named there z ≡ Ok (renamed f o)
    written_name o z e h =
        let first = bound (translate_immediates (written t) o.immediates) (λ is. Ok (operation o.opcode is)) z e in
        let made : operation o.opcode first.0 ≡ z = cc first.2 in
        let leads = lead_all (written t) (raw_naming there) (renaming f) (all_named t) o.immediates (blocks_named (block_types o.immediates) h) in
        ap (raw_named there) (sym made)
        ∙ ap (λ r. r >>= λ is. Fine (operation o.opcode is)) (translate_leads (written t) (raw_naming there) (renaming f) o.immediates leads first.0 first.1 ∙ renaming_is f o.immediates)
