use Rattle.std.proofs.Common.{rules}
use Rattle.walrus_maps.proofs.EntryMaps.{get-entries}
use Rattle.walrus_maps.proofs.function_locals.FunctionLocals.list.Goals as goal

pub returns-in-Some : goal.returns-in-Some
returns-in-Some c =
    let found = get-entries c.self.inside.lists.entries c.args.function in
    grind (c.self.view_is, found, c.get.ensures.value, c.in-Some.is, c.as_slice.ensures, rules)

pub returns-in-None : goal.returns-in-None
returns-in-None c =
    let found = get-entries c.self.inside.lists.entries c.args.function in
    grind (c.self.view_is, found, c.get.ensures.value, c.in-None.is, rules)
