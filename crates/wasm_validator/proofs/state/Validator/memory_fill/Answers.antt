use Rattle.std.proofs.Common.{◌≡◌, [], ◌∷◌, Ok, ap, sym, ◌∙◌}
use Rattle.wasm_types.specs.declared.val_type.ValType.TheVariants.{I32}
use Rattle.wasm_body.specs.Validity.{required}
use Rattle.wasm_typing.specs.Operands.{◌⟶◌}
use Rattle.wasm_typing.specs.Rules.{memory_fill}
use Rattle.wasm_validator.specs.Steps.{setting_of}
use Rattle.wasm_validator.proofs.PlainOperators.{same_type, bound, passed, passed_as, demanded}
use Rattle.wasm_validator.proofs.state.Validator.memory_fill.Goals as goal

pub returns-in-Some-clause-plain : goal.returns-in-Some-clause-plain
returns-in-Some-clause-plain c =
    let v = c.args.self.now in
    same_type v c.typed.new.self (memory_fill (setting_of v).operands c.args.memory) (Ok (c.value.result ∷ I32 ∷ c.value-in-Some.result ∷ [] ⟶ [])) c.typed.result
    (bound _ _ _ (ap required c.in-Some.ensures) ∙ (λ i. Ok (c.value.ensures i ∷ I32 ∷ c.value-in-Some.ensures i ∷ [] ⟶ [])))
    c.typed.ensures.plain
