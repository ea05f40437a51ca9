use Rattle.std.proofs.Common.{◌≡◌, [], ◌∷◌, Ok, ap, sym, ◌∙◌}
use Rattle.wasm_types.specs.declared.val_type.ValType.TheVariants.{I32}
use Rattle.wasm_body.specs.Validity.{required}
use Rattle.wasm_typing.specs.Operands.{◌⟶◌}
use Rattle.wasm_typing.specs.Rules.{table_copy}
use Rattle.wasm_locals.specs.LocalTypes.{types_of_locals}
use Rattle.wasm_typing.specs.Contexts.{address}
use Rattle.wasm_validator.specs.Steps.{setting_of}
use Rattle.wasm_validator.proofs.PlainOperators.{same_type, bound, passed, passed_as, demanded}
use Rattle.wasm_validator.proofs.state.Validator.table_copy.Goals as goal

pub returns-clause-plain : goal.returns-clause-plain
returns-clause-plain c =
    let v = c.args.self.now in
    same_type v c.typed.new.self (table_copy (setting_of v).operands c.args.target c.args.source) (Ok (c.value.result ∷ c.value-2.result ∷ c.value-3.result ∷ [] ⟶ [])) c.typed.result
    (bound _ _ _ (ap required c.in-Some.ensures) ∙ (bound _ _ _ (ap required c.in-Some-table.ensures) ∙ (passed_as _ c.matches_reference.result _ (c.matches_reference.ensures (types_of_locals v.locals)) c.if-not-matches_reference.false ∙ (λ i. Ok (c.value.ensures i ∷ c.value-2.ensures i ∷ (ap address c.narrower.ensures ∙ c.value-3.ensures) i ∷ [] ⟶ [])))))
    c.typed.ensures.plain
