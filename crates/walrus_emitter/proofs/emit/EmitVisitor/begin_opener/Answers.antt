use Rattle.std.proofs.Common.{◌≡◌, true, rules}
use Rattle.walrus_numbering.specs.NumberMaps.{numbers_of}
use Rattle.walrus_emitter.proofs.TreeWriting.Spelled.{on_true}
use Rattle.walrus_emitter.proofs.TreeWriting.Openers.{opener_visited, really}
use Rattle.walrus_emitter.proofs.emit.EmitVisitor.begin_opener.Goals as goal

pub returns-in-Ok-clause-done : goal.returns-in-Ok-clause-done
returns-in-Ok-clause-done c =
    let v = c.args.self.now in
    let untyped : c.is_untyped.result ≡ true = search rules in
    on_true c.write_number.result
    (opener_visited v.builder.now.sequences (numbers_of v.numbers) v.scopes c.announce.new.scopes v.draft c.write_number.new.self c.args.instr.now
    c.args.location c.args.byte c.requires.row c.requires.lawful (really c.is_untyped.result untyped c.is_untyped.ensures) c.in-Ok.ensures.ok)
    c.write_number.ensures.done
