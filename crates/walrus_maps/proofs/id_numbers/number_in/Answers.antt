use Rattle.std.proofs.Common.{rules}
use Rattle.walrus_maps.proofs.EntryMaps.{get-entries}
use Rattle.walrus_maps.proofs.id_numbers.number_in.Goals as goal

pub returns : goal.returns
returns g c =
    let found = get-entries c.args.numbers.now.entries c.args.index in
    grind (found, rules)
