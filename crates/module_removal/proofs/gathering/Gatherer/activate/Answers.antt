use Rattle.module_removal.proofs.GatherLemmas.{activates_some, activates_no}
use Rattle.module_removal.proofs.gathering.Gatherer.activate.Goals as goal

pub returns-in-Some-clause-ok : goal.returns-in-Some-clause-ok
returns-in-Some-clause-ok c =
    activates_some c.args.number c.args.active c.in-Some.active c.args.self.now.references c.activate.new.self c.activate.result c.in-Some.is
    c.activate.ensures.ok

pub returns-in-None-clause-ok : goal.returns-in-None-clause-ok
returns-in-None-clause-ok c = activates_no c.args.number c.args.active c.args.self.now.references c.in-None.is
