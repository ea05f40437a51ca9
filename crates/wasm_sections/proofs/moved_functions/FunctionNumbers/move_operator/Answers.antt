use Rattle.std.proofs.Common.{◌≡◌, ℕ, List, ◌∷◌, get_or, refl, sym, ap, ◌∙◌}
use Rattle.wasm_sections.specs.MovedFunctions.{ref_func, other}
use Rattle.wasm_sections.proofs.moved_functions.FunctionNumbers.move_operator.Goals as goal

pub returns-in-Ok-move_ref_func : goal.returns-in-Ok-move_ref_func
returns-in-Ok-move_ref_func c =
    let m = c.in-Ok-move_ref_func.ensures in
    let rest = c.byte.new.self.rest.now in
    let is : c.args.input.now.rest.now ≡ 0xd2 ∷ rest = c.in-Ok.ensures.value ∙ ap (λ (n : ℕ). n ∷ rest) c.if-byte.true in
    (0xd2 ∷ m.0, ref_func rest m.0 is m.1 refl, m.2)

pub returns-in-Ok-copy_operator : goal.returns-in-Ok-copy_operator
returns-in-Ok-copy_operator c =
    let m = c.in-Ok-copy_operator.ensures in
    let front : get_or c.args.input.now.rest.now 0 0 ≡ c.in-Ok.byte = ap (λ (l : List ℕ). get_or l 0 0) c.in-Ok.ensures.value in
    (m.1, other m.0 (λ e. c.if-byte.false (sym front ∙ e)) (λ e. c.if-byte-eq-END.false (sym front ∙ e)) m.2 m.3, m.4)
