use Rattle.std.proofs.Common.{rules}
use Rattle.wrewrite_c.proofs.CallLemmas.{named_in}
use Rattle.wrewrite_c.proofs.finding.find.Goals as goal

pub returns-clause-found : goal.returns-clause-found
returns-clause-found c = named_in c.find_in.result c.deref.result.now c.args.source.now (search rules) c.find_in.ensures.found

pub returns-clause-stops : goal.returns-clause-stops
returns-clause-stops c = c.find_in.ensures.stops c.args.source.now
