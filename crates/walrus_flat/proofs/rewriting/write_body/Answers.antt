use Rattle.std.proofs.Common.{refl, inl, inr}
use Rattle.walrus_parser.specs.BodySources.{source_input}
use Rattle.walrus_flat.specs.UsedLocals.{is_used}
use Rattle.walrus_flat.proofs.FlatBodies.{refuses_body, is_accepted, composed, composed_front, refused}
use Rattle.walrus_flat.proofs.SinkLemmas.{of_whole, took_front}
use Rattle.walrus_flat.proofs.rewriting.write_body.Goals as goal

pub write_checked-requires-clause-accepted : goal.write_checked-requires-clause-accepted
write_checked-requires-clause-accepted g c =
    let a = c.args in
    let s = a.source.now in
    let i = source_input s g.V.OpCheck.check (g.V.OpCheck.state a.validator) in
    let used = is_used c.check.new.scratch.used in
    is_accepted g.F.Fn i used c.in-Ok.ensures

pub returns-in-Err-clause-err : goal.returns-in-Err-clause-err
returns-in-Err-clause-err g c =
    let a = c.args in
    let s = a.source.now in
    let i = source_input s g.V.OpCheck.check (g.V.OpCheck.state a.validator) in
    let used = is_used c.check.new.scratch.used in
    refuses_body g.F.Fn i used c.in-Err.failure c.in-Err.ensures

pub returns-in-Ok-write_checked-clause-ok : goal.returns-in-Ok-write_checked-clause-ok
returns-in-Ok-write_checked-clause-ok g c =
    let a = c.args in
    let s = a.source.now in
    let i = source_input s g.V.OpCheck.check (g.V.OpCheck.state a.validator) in
    let used = is_used c.check.new.scratch.used in
    of_whole g.S.ByteSink.takes a.sink.now c.write_checked.new.sink c.in-Ok-write_checked.draft
    (λ d written. composed g.F.Fn i s.module.now a.target.now.out.now a.target.now.args.now used c.in-Ok.ensures (λ t. refl) c.law_bytes.ensures a.draft.has_map d written) c.in-Ok-write_checked.ensures.ok

pub returns-in-Err-write_checked-clause-err : goal.returns-in-Err-write_checked-clause-err
returns-in-Err-write_checked-clause-err g c =
    let a = c.args in
    let s = a.source.now in
    let i = source_input s g.V.OpCheck.check (g.V.OpCheck.state a.validator) in
    let used = is_used c.check.new.scratch.used in
    refused g.F.Fn i s.module.now a.target.now.out.now a.target.now.args.now used c.in-Ok.ensures c.in-Err-write_checked.fault c.in-Err-write_checked.ensures.err

pub returns-in-Err-write_checked-clause-leaves : goal.returns-in-Err-write_checked-clause-leaves
returns-in-Err-write_checked-clause-leaves g c =
    let a = c.args in
    let s = a.source.now in
    let i = source_input s g.V.OpCheck.check (g.V.OpCheck.state a.validator) in
    let used = is_used c.check.new.scratch.used in
    elim c.in-Err-write_checked.ensures.leaves [
      | inl same ↦ inl same
      | inr front ↦ inr (took_front g.S.ByteSink.takes g.S.ByteSink.refuses a.sink.now c.write_checked.new.sink c.in-Err-write_checked.fault
          (λ d part. inr (composed_front g.F.Fn i s.module.now a.target.now.out.now a.target.now.args.now used c.in-Ok.ensures a.draft.has_map d part)) front)
    ]
