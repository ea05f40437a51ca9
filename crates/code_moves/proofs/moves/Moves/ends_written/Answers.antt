use Rattle.std.proofs.Common.{false, sym, ap, ◌∙◌}
use Rattle.std.specs.Option.{option_map_or}
use Rattle.code_moves.specs.declared.body.Body.{Body}
use Rattle.code_moves.specs.Moves.{ends_written}
use Rattle.code_moves.proofs.BodySearch.{written_of}
use Rattle.code_moves.proofs.moves.Moves.ends_written.Goals as goal

pub returns-in-Some : goal.returns-in-Some
returns-in-Some c = c.ends_written.ensures
    ∙ sym (written_of c.args.self.now.bodies.items c.args.address ∙ ap (λ o. option_map_or (λ (b : Body). ends_written b.runs.items c.args.address) o false) (sym c.in-Some.ensures))

pub returns-in-None : goal.returns-in-None
returns-in-None c =
    sym (written_of c.args.self.now.bodies.items c.args.address ∙ ap (λ o. option_map_or (λ (b : Body). ends_written b.runs.items c.args.address) o false) (sym c.in-None.ensures))
