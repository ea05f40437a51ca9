use Rattle.std.proofs.Common.{◌≡◌, [], ◌∷◌, Ok, ap, sym, ◌∙◌}
use Rattle.wasm_types.specs.declared.val_type.ValType.TheVariants.{I32}
use Rattle.wasm_body.specs.Validity.{required}
use Rattle.wasm_typing.specs.Operands.{◌⟶◌}
use Rattle.wasm_typing.specs.Rules.{memory_init}
use Rattle.wasm_validator.specs.Steps.{setting_of}
use Rattle.wasm_validator.proofs.PlainOperators.{same_type, bound, passed, passed_as, demanded}
use Rattle.wasm_validator.proofs.state.Validator.memory_init.Goals as goal

pub returns-clause-plain : goal.returns-clause-plain
returns-clause-plain c =
    let v = c.args.self.now in
    same_type v c.typed.new.self (memory_init (setting_of v).operands c.args.segment c.args.memory) (Ok (c.value.result ∷ I32 ∷ I32 ∷ [] ⟶ [])) c.typed.result
    (bound _ _ _ (ap required c.in-Some.ensures) ∙ (passed_as _ c.has_data.result _ c.has_data.ensures c.if-not-has_data.false ∙ (λ i. Ok (c.value.ensures i ∷ I32 ∷ I32 ∷ [] ⟶ []))))
    c.typed.ensures.plain
