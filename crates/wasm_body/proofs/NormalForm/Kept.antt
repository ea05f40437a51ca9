-- A named operator, kept in the tree and written with names, is itself.
use Rattle.std.proofs.Common.{◌≡◌, ℕ, List, [], ◌∷◌, Result, Ok, refl, ap, ◌∙◌}
use Rattle.std.specs.List.{AllByRecursion}
use Rattle.walrus_ir.specs.declared.val_type.InstrSeqType.{InstrSeqType}
use Rattle.walrus_ir.specs.Types.{Signature}
use Rattle.wasm_operators.specs.declared.types.Space.TheVariants.{Types}
use Rattle.wasm_body.specs.declared.error.EmitError.{EmitError}
use Rattle.wasm_body.specs.declared.error.EmitError.TheVariants.{Index}
use Rattle.wasm_body.specs.declared.error.IndexError.TheVariants.{Unnumbered}
use Rattle.wasm_numbers.specs.Results.{some_or}
use Rattle.wasm_body.specs.Translation.{translate, translate_immediates}
use Rattle.wasm_body.specs.Naming.{NamedOperation, block_types}
use Rattle.wasm_body.specs.FunctionTree.{Target, Depth, Outside}
use Rattle.wasm_body.specs.NormalForm.{Typing, kept, kept_operation}
use Rattle.wasm_body.specs.FlatText.{with_block_type, with_names}
use Rattle.wasm_body.specs.Typed.{HasSignatures}
use Rattle.wasm_body.proofs.Translation.Steps.{Leads, after_one, ok-infallible}
use Rattle.wasm_body.proofs.Translation.Translations.{LeadAll, lead_all, translate_leads, same, translate_same}
use Rattle.wasm_body.proofs.NormalForm.Exponents.{exponent_of-pow}

-- ---- kept and written

block_types_lead : (m : Typing) (t : InstrSeqType) (ss : List Signature) → HasSignatures m t ss
    → AllByRecursion (Leads kept.block (λ b. some_or (m.signature_of t) (Index (Unnumbered Types))) Ok) ss
block_types_lead m t [] h = tt
block_types_lead m t (s ∷ ss) h = ((λ c e. ap (λ o. some_or o (Index (Unnumbered Types))) h.0), block_types_lead m t ss h.1)

label_leads : (m : Typing) (n : ℕ) (t : Target) → kept.label n ≡ Ok t → (with_names m).translation.label t ≡ Ok n
label_leads m n (Depth k) e = let h : Depth k ≡ Depth n = cc in ap (with_names m).translation.label h
label_leads m n Outside e = absurd cc

number_leads : (n k : ℕ) → (let r : Result ℕ ⊥ = Ok n in r) ≡ Ok k → (let r : Result ℕ EmitError = Ok k in r) ≡ Ok n
number_leads n k e = let h : k ≡ n = cc in ap Ok h

all_lead : (m : Typing) (t : InstrSeqType) → LeadAll kept (with_block_type (with_names m).translation t) same
all_lead m t = record {
  indices = λ space n. number_leads n;
  locals = number_leads;
  labels = label_leads m;
  handlers = number_leads;
  outers = number_leads;
  numbers = number_leads;
  alignments = exponent_of-pow;
  counts = λ n u e. refl;
}

-- at a sequence whose type has the operator's block type as signature
pub kept_written : (m : Typing) (t : InstrSeqType) (o : NamedOperation) → HasSignatures m t (block_types o.immediates)
    → translate (with_block_type (with_names m).translation t) (kept_operation o) ≡ Ok o
kept_written m t o h =
    after_one (translate_immediates (with_block_type (with_names m).translation t) (kept_operation o).immediates) (Ok o.immediates)
    (λ is. Ok (record { opcode = o.opcode; immediates = is }))
    (translate_leads kept (with_block_type (with_names m).translation t) same o.immediates
    (lead_all kept (with_block_type (with_names m).translation t) same (all_lead m t) o.immediates (block_types_lead m t (block_types o.immediates) h))
    (kept_operation o).immediates (ok-infallible (translate_immediates kept o.immediates))
    ∙ translate_same o.immediates)
