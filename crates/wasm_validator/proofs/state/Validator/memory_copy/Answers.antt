use Rattle.std.proofs.Common.{◌≡◌, [], ◌∷◌, Ok, ap, sym, ◌∙◌}
use Rattle.wasm_types.specs.declared.val_type.ValType.TheVariants.{I32}
use Rattle.wasm_body.specs.Validity.{required}
use Rattle.wasm_typing.specs.Operands.{◌⟶◌}
use Rattle.wasm_typing.specs.Rules.{memory_copy}
use Rattle.wasm_typing.specs.Contexts.{address}
use Rattle.wasm_validator.specs.Steps.{setting_of}
use Rattle.wasm_validator.proofs.PlainOperators.{same_type, bound, passed, passed_as, demanded}
use Rattle.wasm_validator.proofs.state.Validator.memory_copy.Goals as goal

pub returns-in-Some-memory-clause-plain : goal.returns-in-Some-memory-clause-plain
returns-in-Some-memory-clause-plain c =
    let v = c.args.self.now in
    same_type v c.typed.new.self (memory_copy (setting_of v).operands c.args.target c.args.source) (Ok (c.value.result ∷ c.value-in-Some-memory.result ∷ c.value-in-Some-memory-2.result ∷ [] ⟶ [])) c.typed.result
    (bound _ _ _ (ap required c.in-Some.ensures) ∙ (bound _ _ _ (ap required c.in-Some-memory.ensures) ∙ (λ i. Ok (c.value.ensures i ∷ c.value-in-Some-memory.ensures i ∷ (ap address c.narrower.ensures ∙ c.value-in-Some-memory-2.ensures) i ∷ [] ⟶ []))))
    c.typed.ensures.plain
