use Rattle.std.proofs.Common.{List, ℕ, [], ◌∷◌, ◌++◌, ap, ◌∙◌, append_assoc}
use Rattle.wasm_operators.specs.Shortest.{short}
use Rattle.wasm_sections.specs.Constants.{constant_operation}
use Rattle.wasm_sections.proofs.constants.write_constant.Goals as goal

pub returns : goal.returns
returns c =
    c.in_ok-push.ensures.items ∙ ap (λ (l : List ℕ). l ++ 0x0b ∷ []) c.in_ok-write_value.ensures
    ∙ append_assoc c.args.out.now.items (short (constant_operation c.args.value)) (0x0b ∷ [])
