use Rattle.std.proofs.Common.{◌≡◌, [], ◌∷◌, Ok, ap, sym, ◌∙◌}
use Rattle.wasm_types.specs.declared.val_type.ValType.TheVariants.{I32}
use Rattle.wasm_typing.specs.Operands.{◌⟶◌}
use Rattle.wasm_typing.specs.Rules.{array_new}
use Rattle.wasm_validator.specs.Steps.{setting_of}
use Rattle.wasm_validator.proofs.PlainOperators.{same_type, bound, passed, passed_as, demanded}
use Rattle.wasm_validator.proofs.state.Validator.array_new.Goals as goal

pub returns-clause-plain : goal.returns-clause-plain
returns-clause-plain c =
    let v = c.args.self.now in
    same_type v c.typed.new.self (array_new (setting_of v).operands c.args.ty) (Ok (c.unpacked.result ∷ I32 ∷ [] ⟶ c.reference.result ∷ [])) c.typed.result
    (bound _ _ _ c.in-Some.ensures ∙ (λ i. Ok (c.unpacked.ensures i ∷ I32 ∷ [] ⟶ sym c.reference.ensures i ∷ [])))
    c.typed.ensures.plain
