use Rattle.std.proofs.Common.{ap, sym, ◌∙◌}
use Rattle.wasm_operators.specs.Parts.{parts_of}
use Rattle.wasm_operators.proofs.Shapes.{shape_again}
use Rattle.wasm_operators.proofs.operator_parts.Op+BrTable+CatchList.parts.Goals as goal

-- The parts are those of their meaning.
pub returns-clause-exact : goal.returns-clause-exact
returns-clause-exact c =
    let r = c.taken_apart.result in
    let again = shape_again r.1 in
    sym (λ i. (r.0, again i)) ∙ ap parts_of c.taken_apart.ensures
