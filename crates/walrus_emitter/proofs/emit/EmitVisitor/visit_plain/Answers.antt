use Rattle.walrus_numbering.specs.NumberMaps.{numbers_of}
use Rattle.walrus_emitter.proofs.TreeWriting.Steps.{plain_visited, on_ok}
use Rattle.walrus_emitter.proofs.emit.EmitVisitor.visit_plain.Goals as goal

pub returns-in-Ok-clause-ok : goal.returns-in-Ok-clause-ok
returns-in-Ok-clause-ok c =
    let v = c.args.self.now in
    on_ok c.write_any.result
    (plain_visited v.builder.now.sequences (numbers_of v.numbers) v.scopes v.draft c.write_any.new.self c.args.instr.now c.args.location
    c.in-Ok.op c.requires c.in-Ok.ensures.operator)
    c.write_any.ensures.ok
