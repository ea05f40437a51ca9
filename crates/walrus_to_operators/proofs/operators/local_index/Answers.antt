use Rattle.std.proofs.Common.{◌≡◌, ◌<◌, ◌^◌, Some, None, sym, arith, rules}
use Rattle.walrus_maps.proofs.EntryMaps.{get-entries}
use Rattle.walrus_numbering.specs.EmittedLocals.{number_in}
use Rattle.walrus_numbering.proofs.FittingNumbers.{numbered_local, unnumbered_local}
use Rattle.walrus_to_operators.proofs.operators.local_index.Goals as goal

pub returns-in-Some : goal.returns-in-Some
returns-in-Some c =
    let m = c.args.numbers.now in
    let entries = m.locals.now.entries in
    let found = get-entries entries c.args.local in
    let is : number_in entries c.args.local ≡ Some c.in-Some.number = grind (found, c.get.ensures.value, c.copied.ensures, c.in-Some.is, rules) in
    let fits : c.in-Some.number < 2 ^ 32 = omega arith in
    sym (numbered_local m.types.now m.ids.now entries c.args.local c.in-Some.number is fits)

pub returns-in-None : goal.returns-in-None
returns-in-None c =
    let m = c.args.numbers.now in
    let entries = m.locals.now.entries in
    let found = get-entries entries c.args.local in
    let is : number_in entries c.args.local ≡ None = grind (found, c.get.ensures.value, c.copied.ensures, c.in-None.is, rules) in
    sym (unnumbered_local m.types.now m.ids.now entries c.args.local is)
