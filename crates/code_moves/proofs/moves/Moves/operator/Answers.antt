use Rattle.std.proofs.Common.{sym, ap, ◌∙◌}
use Rattle.std.specs.Prelude.{option_and_then}
use Rattle.code_moves.specs.declared.body.Body.{Body}
use Rattle.code_moves.specs.Moves.{operator_place}
use Rattle.code_moves.proofs.BodySearch.{operator_of_body}
use Rattle.code_moves.proofs.moves.Moves.operator.Goals as goal

pub returns-in_err-body : goal.returns-in_err-body
returns-in_err-body c = c.from_residual.ensures
    ∙ sym (operator_of_body c.args.self.now.bodies.items c.args.address ∙ ap (option_and_then (λ (b : Body). operator_place b.runs.items b.new_end c.args.address)) (sym c.in_err-body.ensures))

pub returns : goal.returns
returns c = c.operator.ensures
    ∙ sym (operator_of_body c.args.self.now.bodies.items c.args.address ∙ ap (option_and_then (λ (b : Body). operator_place b.runs.items b.new_end c.args.address)) (sym c.in_ok-body.ensures))
