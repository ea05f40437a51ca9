use Rattle.walrus_flat.proofs.FlatResults.{finishes_both, finishes_not_both}
use Rattle.walrus_flat.proofs.rewriting.finish_with_map.Goals as goal

pub returns-in-Ok-clause-finishes : goal.returns-in-Ok-clause-finishes
returns-in-Ok-clause-finishes c =
    finishes_both c.args.made c.in-Ok.draft c.in-Ok.is c.args.dst.now.items c.append_with_map.new.dst.items c.args.map.now.items c.append_with_map.new.map.items c.append_with_map.result
    c.append_with_map.ensures.ok c.append_with_map.ensures.pairs c.append_with_map.ensures.err

pub returns-in-Err-clause-finishes : goal.returns-in-Err-clause-finishes
returns-in-Err-clause-finishes c = finishes_not_both c.args.made c.in-Err.error c.in-Err.is c.args.dst.now.items c.args.dst.now.items c.args.map.now.items c.args.map.now.items
