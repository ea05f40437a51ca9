use Rattle.std.proofs.Common.{rules}
use Rattle.walrus_maps.proofs.EntryMaps.{get-entries}
use Rattle.walrus_maps.proofs.function_locals.FunctionLocals.get.Goals as goal

pub returns-in_err-ok_or : goal.returns-in_err-ok_or
returns-in_err-ok_or c =
    let found = get-entries c.self.inside.lists.entries c.args.function in
    grind (c.self.view_is, found, c.get.ensures.value, rules)

pub returns : goal.returns
returns c =
    let found = get-entries c.self.inside.lists.entries c.args.function in
    grind (c.self.view_is, found, c.get.ensures.value, rules)
