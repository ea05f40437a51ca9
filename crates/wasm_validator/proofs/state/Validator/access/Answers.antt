use Rattle.std.proofs.Common.{◌≡◌, [], ◌∷◌, Ok, ap, ◌∙◌}
use Rattle.wasm_operators.specs.AccessOperations.{access_of}
use Rattle.wasm_body.specs.Validity.{required}
use Rattle.wasm_typing.specs.Operands.{◌⟶◌}
use Rattle.wasm_typing.specs.Rules.{accessed}
use Rattle.wasm_operator_types.specs.AccessTypes.{type_of_access, access_operands, given_by}
use Rattle.wasm_validator.specs.Steps.{setting_of}
use Rattle.wasm_validator.proofs.PlainOperators.{same_type, bound, passed, passed_as}
use Rattle.wasm_validator.proofs.state.Validator.access.Goals as goal

pub returns-in-One-clause-plain : goal.returns-in-One-clause-plain
returns-in-One-clause-plain c =
    let v = c.args.self.now in
    let ty = c.args.ty in
    let a = access_of c.args.memarg in
    let at = c.value-at.result in
    let reached : accessed ty.exact ty.exponent (setting_of v).operands a ≡ Ok at =
    bound _ _ _ (ap required c.in-Some.ensures)
    ∙ (passed_as _ c.is_aligned.result _ c.is_aligned.ensures c.if-not-is_aligned.false
    ∙ (passed_as _ c.is_offset.result _ c.is_offset.ensures c.if-not-is_offset.false ∙ ap (λ t. Ok t) c.value-at.ensures)) in
    same_type v c.gives-in-One.new.self (type_of_access ty (setting_of v).operands a) (Ok (at ∷ c.in-One.first ∷ [] ⟶ given_by ty.gives)) c.gives-in-One.result
    (bound _ _ _ reached ∙ (passed _ _ c.if-not-ty.false ∙ ap (λ o. Ok (at ∷ access_operands o ⟶ given_by ty.gives)) c.in-One.is))
    c.gives-in-One.ensures.plain

pub returns-in-Two-clause-plain : goal.returns-in-Two-clause-plain
returns-in-Two-clause-plain c =
    let v = c.args.self.now in
    let ty = c.args.ty in
    let a = access_of c.args.memarg in
    let at = c.value-at.result in
    let reached : accessed ty.exact ty.exponent (setting_of v).operands a ≡ Ok at =
    bound _ _ _ (ap required c.in-Some.ensures)
    ∙ (passed_as _ c.is_aligned.result _ c.is_aligned.ensures c.if-not-is_aligned.false
    ∙ (passed_as _ c.is_offset.result _ c.is_offset.ensures c.if-not-is_offset.false ∙ ap (λ t. Ok t) c.value-at.ensures)) in
    same_type v c.gives-in-Two.new.self (type_of_access ty (setting_of v).operands a) (Ok (at ∷ c.in-Two.first ∷ c.in-Two.second ∷ [] ⟶ given_by ty.gives)) c.gives-in-Two.result
    (bound _ _ _ reached ∙ (passed _ _ c.if-not-ty.false ∙ ap (λ o. Ok (at ∷ access_operands o ⟶ given_by ty.gives)) c.in-Two.is))
    c.gives-in-Two.ensures.plain
