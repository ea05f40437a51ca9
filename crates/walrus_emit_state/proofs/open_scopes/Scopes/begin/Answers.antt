use Rattle.std.proofs.Common.{[], ◌∷◌, ◌++◌, ◌≡◌, Option, ap, ◌∙◌, arith}
use Rattle.std.specs.Option.{option_to_list}
use Rattle.std.proofs.lemmas.Grind.{common_steps}
use Rattle.std.proofs.lemmas.List.{length-set}
use Rattle.walrus_emit_state.specs.declared.closing.SequenceScope.{SequenceScope}
use Rattle.walrus_emit_state.specs.declared.open_scopes.EnteredScope.{EnteredScope}
use Rattle.walrus_emit_state.proofs.TreeWriting.ScopeTables.{begins}
use Rattle.walrus_emit_state.proofs.open_scopes.Scopes.begin.Goals as goal

pub returns-clause-ok : goal.returns-clause-ok
returns-clause-ok c =
    let s = c.self.inside in
    let entered : EnteredScope = record { scope = c.in-Some.scope; before = c.index-before.result.now } in
    let popped : s.coming.items ≡ c.pop.new.self.items ++ entered.scope ∷ [] =
    c.pop.ensures.items ∙ ap (λ (o : Option SequenceScope). c.pop.new.self.items ++ option_to_list o) c.in-Some.is in
    let pushed : c.push.new.self.items ≡ s.entered.items ++ entered ∷ [] = grind (arith, common_steps) in
    begins s.levels.items _ s.coming.items c.pop.new.self.items s.entered.items c.push.new.self.items entered
    c.args.self.now c.self.view_is (length-set s.levels.items c.index-index.result _) popped pushed
