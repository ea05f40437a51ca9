use Rattle.std.proofs.Common.{[]}
use Rattle.walrus_numbering.specs.NumberMaps.{numbers_by}
use Rattle.walrus_flat.specs.UsedLocals.{has_local, is_used}
use Rattle.walrus_flat.proofs.UsedLocals.{same_declared, no_table}
use Rattle.walrus_flat.proofs.local_numbers.declare_in_map.Goals as goal

pub returns-in-Ok-clause-ok : goal.returns-in-Ok-clause-ok
returns-in-Ok-clause-ok c =
    let a = c.args in
    let to = numbers_by a.module.now.types a.indices.now [] in
    same_declared to a.module.now.locals a.args.now (has_local c.in_ok-all.all) (is_used a.used.now) c.in_ok-all.ensures _ c.in-Ok.map.entries _
    (no_table c.new-table.result.items _ c.new-table.ensures.items) c.in-Ok.ensures.ok
