use Rattle.wrewrite_c.specs.Outcomes.{asked}
use Rattle.wrewrite_c.proofs.wrewrite_raw_snip.Goals as goal

pub returns-in-Some : goal.returns-in-Some
returns-in-Some c = asked c.in-Some.wanted c.in-Some.ensures c.snip.ensures
