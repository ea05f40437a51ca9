use Rattle.std.proofs.Common.{◌∙◌, refl, sym}
use Rattle.walrus_flat.specs.Checked.{env_of_checker}
use Rattle.walrus_flat.proofs.CheckedOperators.{handler_is}
use Rattle.walrus_flat.proofs.checker.Checker.has_handler_of.Goals as goal

pub returns : goal.returns
returns c = λ s t.
    c.has_pick_with.ensures s t
    ∙ handler_is (env_of_checker c.args.self.now) c.args.tag c.in-Ok.id c.in-Some.handled c.params.result.now s.results (sym c.in-Ok.ensures) (sym c.in-Some.ensures) _ refl c.params.ensures
