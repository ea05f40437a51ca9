use Rattle.module_removal.proofs.GatherStepLemmas.{gathers_group}
use Rattle.module_removal.proofs.gathering.Gatherer.group.Goals as goal

pub returns-clause-is : goal.returns-clause-is
returns-clause-is c = λ none.
    gathers_group c.args.input.now.end c.group_members.new.input.end c.args.input.now.rest.now c.group_members.new.input.rest.now c.members.new.input.rest.now
    c.in-Ok.value.0 c.args.self.now c.members.new.self c.members.result c.in-Ok.ensures.count c.in-Ok.ensures.same_end (c.members.ensures.is none)
