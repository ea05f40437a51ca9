use Rattle.std.proofs.Common.{Some, sym, ap, ◌∙◌}
use Rattle.walrus_ir.specs.declared.seq.InstrSeq.{InstrSeq}
use Rattle.walrus_emit_state.proofs.TreeWriting.Announcing.{one_announced}
use Rattle.walrus_emit_state.proofs.announcing.announce_one.Goals as goal

pub returns-clause-ok : goal.returns-clause-ok
returns-clause-ok c =
    let seen = c.behind-builder.inside in
    let seq : InstrSeq = record { id = seen.id; ty = seen.ty; instrs = seen.instrs.items; end = seen.end } in
    one_announced _ c.args.place c.args.closer seq _ _
    (c.seq.ensures ∙ ap (λ (s : InstrSeq). Some s) (sym c.behind-builder.view_is)) c.in_ok-announce.ensures.ok
