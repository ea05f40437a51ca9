use Rattle.std.proofs.Common.{Some, sym, ap, ◌∙◌}
use Rattle.walrus_ir.specs.declared.seq.InstrSeq.{InstrSeq}
use Rattle.walrus_emitter.proofs.TreeWriting.Trees.{first_scope}
use Rattle.walrus_emitter.proofs.emit.first_scopes.Goals as goal

pub returns : goal.returns
returns c =
    let seen = c.behind-builder.inside in
    let seq : InstrSeq = record { id = seen.id; ty = seen.ty; instrs = seen.instrs.items; end = seen.end } in
    first_scope c.args.builder.now.sequences c.args.entry c.count.result seq c.in_ok-scopes.scopes c.announce.new.self
    (c.seq.ensures ∙ ap (λ (s : InstrSeq). Some s) (sym c.behind-builder.view_is)) c.count.ensures
    c.in_ok-scopes.ensures c.in_ok-announce.ensures.ok
