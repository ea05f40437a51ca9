use Rattle.std.proofs.Common.{rules}
use Rattle.std.specs.FinMap as map
use Rattle.std.specs.Ordering.{nat_cmp}
use Rattle.walrus_maps.proofs.IdTables.{get-table}
use Rattle.walrus_maps.proofs.id_numbers.IdNumbers.get_in.Goals as goal

pub returns-in-Some : goal.returns-in-Some
returns-in-Some g c =
    let found = get-table c.self.inside.table.items (map.from_entries {R = nat_cmp} c.self.inside.numbers.entries) c.args.id in
    grind (c.self.view_is, found, rules)

pub returns-in-None : goal.returns-in-None
returns-in-None g c =
    let found = get-table c.self.inside.table.items (map.from_entries {R = nat_cmp} c.self.inside.numbers.entries) c.args.id in
    grind (c.self.view_is, found, rules)
