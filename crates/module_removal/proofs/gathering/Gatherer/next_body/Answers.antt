use Rattle.module_removal.proofs.GatherStepLemmas.{gathers_next_body}
use Rattle.module_removal.proofs.gathering.Gatherer.next_body.Goals as goal

pub returns-clause-is : goal.returns-clause-is
returns-clause-is c = λ none.
    let part = c.in-Ok-part.value in
    gathers_next_body c.args.func c.args.input.now.end c.number.new.self.end part.end c.in-Ok.value c.args.input.now.rest.now c.number.new.self.rest.now
    c.part.new.self.rest.now part.rest.now c.args.self.now c.body.new.self c.body.result c.in-Ok.ensures.is c.in-Ok.ensures.same_end c.in-Ok-part.ensures.is
    c.in-Ok-part.ensures.ends (c.body.ensures none)
