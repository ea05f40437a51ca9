use Rattle.std.proofs.Common.{◌≡◌, [], ◌∷◌, Ok, sym, ◌∙◌}
use Rattle.std.specs.Prelude.{slice_get}
use Rattle.wasm_types.specs.declared.val_type.HeapType.TheVariants.{Concrete}
use Rattle.wasm_numbers.specs.Results.{◌>>=◌}
use Rattle.wasm_body.specs.Validity.{demand, required}
use Rattle.wasm_typing.specs.Contexts as standard
use Rattle.wasm_typing.specs.Contexts.{struct_type, unpacked}
use Rattle.wasm_typing.specs.Operands.{◌⟶◌}
use Rattle.wasm_typing.specs.Rules.{struct_set, ref_null}
use Rattle.wasm_validator.specs.Steps.{setting_of}
use Rattle.wasm_validator.proofs.StepResults.{nested}
use Rattle.wasm_validator.proofs.PlainOperators.{same_type, bound, passed}
use Rattle.wasm_validator.proofs.state.Validator.struct_set.Goals as goal

pub returns-clause-plain : goal.returns-clause-plain
returns-clause-plain c =
    let v = c.args.self.now in
    let x = c.args.ty in
    same_type v c.typed.new.self (struct_set (setting_of v).operands x c.args.field) (Ok (c.reference.result ∷ c.unpacked.result ∷ [] ⟶ [])) c.typed.result
    (sym (nested (struct_type (setting_of v).operands x) (λ fs. required (slice_get fs c.args.field))
    (λ (f : standard.FieldType). demand f.mutable >>= λ u. Ok (ref_null (Concrete x) ∷ unpacked f.storage ∷ [] ⟶ [])))
    ∙ (bound _ _ _ c.in-Some.ensures ∙ (passed _ _ c.if-not-field.false ∙ (λ i. Ok (sym c.reference.ensures i ∷ c.unpacked.ensures i ∷ [] ⟶ [])))))
    c.typed.ensures.plain
