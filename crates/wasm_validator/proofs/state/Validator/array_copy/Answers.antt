use Rattle.std.proofs.Common.{◌≡◌, [], ◌∷◌, Ok, ap, sym, ◌∙◌}
use Rattle.wasm_types.specs.declared.val_type.ValType.TheVariants.{I32}
use Rattle.wasm_typing.specs.Operands.{◌⟶◌}
use Rattle.wasm_typing.specs.Rules.{array_copy}
use Rattle.wasm_locals.specs.LocalTypes.{types_of_locals}
use Rattle.wasm_validator.specs.Steps.{setting_of}
use Rattle.wasm_validator.proofs.PlainOperators.{same_type, bound, passed, passed_as, demanded}
use Rattle.wasm_validator.proofs.state.Validator.array_copy.Goals as goal

pub returns-clause-plain : goal.returns-clause-plain
returns-clause-plain c =
    let v = c.args.self.now in
    same_type v c.typed.new.self (array_copy (setting_of v).operands c.args.target c.args.source) (Ok (c.reference.result ∷ I32 ∷ c.reference-2.result ∷ I32 ∷ I32 ∷ [] ⟶ [])) c.typed.result
    (bound _ _ _ c.in-Some.ensures ∙ (bound _ _ _ c.in-Some-array_element.ensures ∙ (passed _ _ c.if-not-to.false ∙ (passed_as _ c.matches_storage.result _ (c.matches_storage.ensures (types_of_locals v.locals)) c.if-not-matches_storage.false ∙ (λ i. Ok (sym c.reference.ensures i ∷ I32 ∷ sym c.reference-2.ensures i ∷ I32 ∷ I32 ∷ [] ⟶ []))))))
    c.typed.ensures.plain
