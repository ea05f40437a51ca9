use Rattle.module_removal.proofs.GatherLemmas.{no_target}
use Rattle.module_removal.proofs.bounds.active_of.Goals as goal

pub returns-in_default : goal.returns-in_default
returns-in_default c =
    (c.args.input.rest.now, no_target c.args.space c.args.input.end c.args.input.rest.now c.in_default.not-Elements c.in_default.not-Data)
