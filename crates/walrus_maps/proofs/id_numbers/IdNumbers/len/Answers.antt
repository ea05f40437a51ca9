use Rattle.std.proofs.Common.{ap, arith}
use Rattle.std.specs.FinMap as map
use Rattle.std.specs.Ordering.{nat_cmp}
use Rattle.walrus_maps.proofs.EntryMaps.{len-entries}
use Rattle.walrus_maps.proofs.IdTables.{len-table}
use Rattle.walrus_maps.proofs.id_numbers.IdNumbers.len.Goals as goal

pub returns : goal.returns
returns g c =
    let es = c.self.inside.numbers.entries in
    let others = len-entries es c.len-2.ensures.unique in
    let all = len-table c.self.inside.table.items (map.from_entries {R = nat_cmp} es) c.self.invariant in
    omega (arith, c.len.ensures, c.len-2.ensures.len, others, all, ap map.len c.self.view_is)
