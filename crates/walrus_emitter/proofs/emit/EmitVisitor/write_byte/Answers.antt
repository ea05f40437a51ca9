use Rattle.walrus_numbering.specs.NumberMaps.{numbers_of}
use Rattle.walrus_emit_state.specs.TreeWriting.Closers.{places_of}
use Rattle.walrus_emitter.proofs.TreeWriting.Spelled.{byte_spelled, bytes_visited, on_true}
use Rattle.walrus_emitter.proofs.emit.EmitVisitor.write_byte.Goals as goal

pub returns-clause-done : goal.returns-clause-done
returns-clause-done c =
    let v = c.args.self.now in
    let to = numbers_of v.numbers in
    on_true c.write_byte.result
    (bytes_visited v.builder.now.sequences to v.scopes v.draft c.write_byte.new.self c.args.instr.now c.args.location _ c.requires.plain
    (byte_spelled to (places_of v.scopes.open_scopes) c.args.instr.now c.args.byte c.requires.row))
    c.write_byte.ensures.done
