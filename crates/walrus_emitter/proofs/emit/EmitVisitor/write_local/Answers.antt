use Rattle.std.proofs.Common.{◌<◌, ◌^◌, arith, rules}
use Rattle.walrus_numbering.specs.NumberMaps.{numbers_of}
use Rattle.walrus_numbering.proofs.FittingNumbers.{numbered_local}
use Rattle.walrus_emit_state.specs.TreeWriting.Closers.{places_of}
use Rattle.walrus_emitter.proofs.TreeWriting.Spelled.{local_spelled, bytes_visited, on_true}
use Rattle.walrus_emitter.proofs.emit.EmitVisitor.write_local.Goals as goal

pub returns-in-Some-clause-done : goal.returns-in-Some-clause-done
returns-in-Some-clause-done c =
    let v = c.args.self.now in
    let to = numbers_of v.numbers in
    let fits : c.in-Some.number < 2 ^ 32 = omega arith in
    let m = v.numbers in
    let found = numbered_local m.types.now m.ids.now m.locals.now.entries c.args.local c.in-Some.number
    (v.has_numbers c.args.local c.in-Some.number (search rules)) fits in
    on_true c.write_number.result
    (bytes_visited v.builder.now.sequences to v.scopes v.draft c.write_number.new.self c.args.instr.now c.args.location _ c.requires.plain
    (local_spelled to (places_of v.scopes.open_scopes) c.args.instr.now c.args.byte c.args.local c.in-Some.number c.requires.row found fits))
    c.write_number.ensures.done
