use Rattle.std.proofs.Common.{◌≡◌, [], ◌∷◌, Ok, ap, sym, ◌∙◌}
use Rattle.wasm_types.specs.declared.val_type.ValType.TheVariants.{I32}
use Rattle.wasm_body.specs.Validity.{required}
use Rattle.wasm_typing.specs.Operands.{◌⟶◌}
use Rattle.wasm_typing.specs.Rules.{table_init}
use Rattle.wasm_locals.specs.LocalTypes.{types_of_locals}
use Rattle.wasm_validator.specs.Steps.{setting_of}
use Rattle.wasm_validator.proofs.PlainOperators.{same_type, bound, passed, passed_as, demanded}
use Rattle.wasm_validator.proofs.state.Validator.table_init.Goals as goal

pub returns-clause-plain : goal.returns-clause-plain
returns-clause-plain c =
    let v = c.args.self.now in
    same_type v c.typed.new.self (table_init (setting_of v).operands c.args.element c.args.table) (Ok (c.value.result ∷ I32 ∷ I32 ∷ [] ⟶ [])) c.typed.result
    (bound _ _ _ (ap required c.in-Some.ensures) ∙ (bound _ _ _ (ap required c.in-Some-element.ensures) ∙ (passed_as _ c.matches_reference.result _ (c.matches_reference.ensures (types_of_locals v.locals)) c.if-not-matches_reference.false ∙ (λ i. Ok (c.value.ensures i ∷ I32 ∷ I32 ∷ [] ⟶ [])))))
    c.typed.ensures.plain
