use Rattle.module_removal.proofs.GatherStepLemmas.{gathers_types}
use Rattle.module_removal.proofs.gathering.Gatherer.types.Goals as goal

pub returns : goal.returns
returns c = λ none.
    let contents = c.args.section.now.contents in
    gathers_types contents.end contents.rest.now c.args.self.now c.groups.new.self c.alike.new.self c.alike.result (c.in-Ok.ensures none) c.alike.ensures
