use Rattle.std.proofs.Common.{◌≡◌, [], ◌∷◌, Ok, ap, sym, ◌∙◌}
use Rattle.wasm_types.specs.declared.val_type.ValType.TheVariants.{I32}
use Rattle.wasm_typing.specs.Operands.{◌⟶◌}
use Rattle.wasm_typing.specs.Rules.{array_init_from, from_data}
use Rattle.wasm_validator.specs.Steps.{setting_of}
use Rattle.wasm_validator.proofs.PlainOperators.{same_type, bound, passed, passed_as, demanded}
use Rattle.wasm_validator.proofs.state.Validator.array_init_data.Goals as goal

pub returns-clause-plain : goal.returns-clause-plain
returns-clause-plain c =
    let v = c.args.self.now in
    same_type v c.typed.new.self (array_init_from from_data (setting_of v).operands c.args.ty c.args.segment) (Ok (c.reference.result ∷ I32 ∷ I32 ∷ I32 ∷ [] ⟶ [])) c.typed.result
    (bound _ _ _ c.in-Some.ensures ∙ (passed _ _ c.if-not-element.false ∙ (demanded _ c.is_from_data.result _ c.is_from_data.ensures c.if-not-is_from_data.false ∙ (λ i. Ok (sym c.reference.ensures i ∷ I32 ∷ I32 ∷ I32 ∷ [] ⟶ [])))))
    c.typed.ensures.plain
