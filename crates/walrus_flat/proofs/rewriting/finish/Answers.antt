use Rattle.walrus_flat.proofs.FlatResults.{finishes, finishes_not}
use Rattle.walrus_flat.proofs.rewriting.finish.Goals as goal

pub returns-in-Ok-clause-finishes : goal.returns-in-Ok-clause-finishes
returns-in-Ok-clause-finishes c = finishes c.args.made c.in-Ok.draft c.in-Ok.is c.args.dst.now.items c.append.new.dst.items c.append.result c.append.ensures.ok c.append.ensures.err

pub returns-in-Err-clause-finishes : goal.returns-in-Err-clause-finishes
returns-in-Err-clause-finishes c = finishes_not c.args.made c.in-Err.error c.in-Err.is c.args.dst.now.items c.args.dst.now.items
