use Rattle.std.proofs.Common.{◌<◌, ◌^◌, sym, ◌∙◌, arith}
use Rattle.wasm_operators.specs.declared.types.Space.TheVariants.{Funcs}
use Rattle.walrus_numbering.specs.NumberMaps.{numbers_of}
use Rattle.walrus_emit_state.specs.TreeWriting.Closers.{places_of}
use Rattle.walrus_emitter.proofs.TreeWriting.Spelled.{numbered, index_spelled, bytes_visited, on_true}
use Rattle.walrus_emitter.proofs.emit.EmitVisitor.write_func.Goals as goal

pub returns-in-Ok-clause-done : goal.returns-in-Ok-clause-done
returns-in-Ok-clause-done c =
    let v = c.args.self.now in
    let to = numbers_of v.numbers in
    let fits : c.in-Ok.number < 2 ^ 32 = omega arith in
    let found = numbered v.numbers.types.now v.numbers.ids.now v.numbers.locals.now.entries Funcs c.args.func c.in-Ok.number
    (sym c.get_func_index.ensures ∙ c.in-Ok.is) fits in
    on_true c.write_number.result
    (bytes_visited v.builder.now.sequences to v.scopes v.draft c.write_number.new.self c.args.instr.now c.args.location _ c.requires.plain
    (index_spelled to (places_of v.scopes.open_scopes) c.args.instr.now c.args.byte Funcs c.args.func c.in-Ok.number c.requires.row found fits))
    c.write_number.ensures.done
