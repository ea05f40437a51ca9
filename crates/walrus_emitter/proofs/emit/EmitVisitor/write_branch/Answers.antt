use Rattle.std.proofs.Common.{sym, ◌∙◌}
use Rattle.walrus_numbering.specs.NumberMaps.{numbers_of}
use Rattle.walrus_emit_state.specs.TreeWriting.Closers.{places_of}
use Rattle.walrus_emitter.proofs.TreeWriting.Spelled.{label_spelled, bytes_visited, on_true}
use Rattle.walrus_emitter.proofs.emit.EmitVisitor.write_branch.Goals as goal

pub returns-in-Ok-clause-done : goal.returns-in-Ok-clause-done
returns-in-Ok-clause-done c =
    let v = c.args.self.now in
    let to = numbers_of v.numbers in
    on_true c.write_number.result
    (bytes_visited v.builder.now.sequences to v.scopes v.draft c.write_number.new.self c.args.instr.now c.args.location _ c.requires.plain
    (label_spelled to (places_of v.scopes.open_scopes) c.args.instr.now c.args.byte c.args.block c.in-Ok.depth c.requires.row
    (sym c.depth.ensures ∙ c.in-Ok.is)))
    c.write_number.ensures.done
