use Rattle.std.proofs.Common.{sym, ap, ◌∙◌}
use Rattle.std.specs.Prelude.{option_and_then}
use Rattle.code_moves.specs.declared.body.Body.{Body}
use Rattle.code_moves.specs.Moves.{moved_in}
use Rattle.code_moves.proofs.BodySearch.{moved_of}
use Rattle.code_moves.proofs.moves.Moves.address.Goals as goal

pub returns-in_err-body : goal.returns-in_err-body
returns-in_err-body c = c.from_residual.ensures
    ∙ sym (moved_of c.args.self.now.bodies.items c.args.address ∙ ap (option_and_then (λ (b : Body). moved_in b c.args.address)) (sym c.in_err-body.ensures))

pub returns : goal.returns
returns c = c.address.ensures
    ∙ sym (moved_of c.args.self.now.bodies.items c.args.address ∙ ap (option_and_then (λ (b : Body). moved_in b c.args.address)) (sym c.in_ok-body.ensures))
