use Rattle.std.proofs.Common.{◌∷◌, [], ◌++◌, ap, ◌∙◌}
use Rattle.wasm_typing.specs.StandardRules.{label_parts}
use Rattle.wasm_validator.proofs.Branches.{parts_of_last, parts_without, not_a_reference}
use Rattle.wasm_validator.proofs.branch.label_parts.Goals as goal

pub returns-in-Ref : goal.returns-in-Ref
returns-in-Ref c =
    let p = c.in-Some.found in
    ap label_parts (c.in-Some.ensures ∙ ap (λ t. p.1.now ++ t ∷ []) c.in-Ref.is) ∙ parts_of_last p.1.now c.in-Ref.last

pub returns-in_default : goal.returns-in_default
returns-in_default c =
    let p = c.in-Some.found in
    parts_without c.args.types.now p.1.now p.0 c.in-Some.ensures (not_a_reference p.0 c.in_default.not-Ref)
