use Rattle.std.proofs.Common.{◌≡◌, ◌≤◌, ◌<◌, ◌+◌, ◌^◌, ℕ, List, length, Bool, false, refl, subst, arith}
use Rattle.std.specs.Prelude.{IfOk, IfErr}
use Rattle.walrus_parser.specs.Bodies.{body_input}
use Rattle.walrus_parser.proofs.BodySources.{readable}
use Rattle.walrus_rewrite.specs.RawBodies.{input_for}
use Rattle.walrus_rewrite.specs.RewrittenBodies.{RefusesRewriting}
use Rattle.walrus_flat.specs.Sinks.{OfWhole}
use Rattle.walrus_emit_state.specs.TreeWriting.Drafts.{Drafted}
use Rattle.walrus_flat.specs.RewrittenFlat.{Composes, LeavesSink}
use Rattle.walrus_flat.proofs.FlatResults.{flat_to, accepts_of_sink, refused_to, leaves_to, each_body, each_fault}
use Rattle.walrus_flat.proofs.rewriting.rewrite_flat_to.Goals as goal

pub write_body-made-requires-clause-readable : goal.write_body-made-requires-clause-readable
write_body-made-requires-clause-readable g c = readable _ _ c.args.body refl c.operators-ops.ensures c.requires.ops c.requires.offset c.requires.fits c.requires.may_call

pub returns-clause-rewritten : goal.returns-clause-rewritten
returns-clause-rewritten g c =
    let a = c.args in
    let made = c.write_body-made.result in
    let i = body_input a.module.now a.indices.now a.id a.ty a.body a.on_instr_pos g.V.OpCheck.check (g.V.OpCheck.state a.validator) in
    let by = input_for a.out.now a.module.now a.args.now in
    let middle = c.write_body-made.new.sink in
    let last = c.finish_to.new.sink in
    let takes = g.S.ByteSink.takes in
    let composes = λ (xs : List ℕ) (has_map : Bool). OfWhole takes a.sink.now middle (Composes g.F.Fn (record i { bytes = xs }) by has_map) in
    let kept = c.of_lists-draft.result.has_map in
    let ok = subst (λ (d : Drafted). IfOk made (composes i.bytes d.has_map)) c.of_lists-draft.ensures (subst (λ (xs : List ℕ). IfOk made (composes xs kept)) c.operators-ops.ensures c.write_body-made.ensures.ok) in
    flat_to g.F.Fn i by takes a.sink.now middle last (g.met.S.ByteSink.one_by_one a.sink.now middle last) a.needs_pairs made ok c.finish_to.result c.finish_to.ensures.finishes

pub returns-clause-refused : goal.returns-clause-refused
returns-clause-refused g c =
    let a = c.args in
    let made = c.write_body-made.result in
    let i = body_input a.module.now a.indices.now a.id a.ty a.body a.on_instr_pos g.V.OpCheck.check (g.V.OpCheck.state a.validator) in
    let by = input_for a.out.now a.module.now a.args.now in
    let err = subst (λ (xs : List ℕ). IfErr made (RefusesRewriting g.F.Fn (record i { bytes = xs }) by)) c.operators-ops.ensures c.write_body-made.ensures.err in
    refused_to g.F.Fn i by _ made err c.finish_to.result c.finish_to.ensures.finishes

pub returns-clause-each_body : goal.returns-clause-each_body
returns-clause-each_body g c locations b both accepted =
    let a = c.args in
    let made = c.write_body-made.result in
    let i = body_input a.module.now a.indices.now a.id a.ty a.body a.on_instr_pos g.V.OpCheck.check (g.V.OpCheck.state a.validator) in
    let by = input_for a.out.now a.module.now a.args.now in
    let err = subst (λ (xs : List ℕ). IfErr made (RefusesRewriting g.F.Fn (record i { bytes = xs }) by)) c.operators-ops.ensures c.write_body-made.ensures.err in
    each_body g.F.Fn i by locations b both accepted c.finish_to.result (refused_to g.F.Fn i by _ made err c.finish_to.result c.finish_to.ensures.finishes)

pub returns-clause-each_fault : goal.returns-clause-each_fault
returns-clause-each_fault g c locations f both fault =
    let a = c.args in
    let made = c.write_body-made.result in
    let i = body_input a.module.now a.indices.now a.id a.ty a.body a.on_instr_pos g.V.OpCheck.check (g.V.OpCheck.state a.validator) in
    let by = input_for a.out.now a.module.now a.args.now in
    let middle = c.write_body-made.new.sink in
    let last = c.finish_to.new.sink in
    let takes = g.S.ByteSink.takes in
    let composes = λ (xs : List ℕ) (has_map : Bool). OfWhole takes a.sink.now middle (Composes g.F.Fn (record i { bytes = xs }) by has_map) in
    let kept = c.of_lists-draft.result.has_map in
    let ok = subst (λ (d : Drafted). IfOk made (composes i.bytes d.has_map)) c.of_lists-draft.ensures (subst (λ (xs : List ℕ). IfOk made (composes xs kept)) c.operators-ops.ensures c.write_body-made.ensures.ok) in
    let err = subst (λ (xs : List ℕ). IfErr made (RefusesRewriting g.F.Fn (record i { bytes = xs }) by)) c.operators-ops.ensures c.write_body-made.ensures.err in
    each_fault g.F.Fn i by locations f both fault c.finish_to.result
    (accepts_of_sink g.F.Fn i by a.needs_pairs (takes a.sink.now last) c.finish_to.result (flat_to g.F.Fn i by takes a.sink.now middle last (g.met.S.ByteSink.one_by_one a.sink.now middle last) a.needs_pairs made ok c.finish_to.result c.finish_to.ensures.finishes))
    (refused_to g.F.Fn i by _ made err c.finish_to.result c.finish_to.ensures.finishes)

pub returns-clause-leaves : goal.returns-clause-leaves
returns-clause-leaves g c =
    let a = c.args in
    let made = c.write_body-made.result in
    let i = body_input a.module.now a.indices.now a.id a.ty a.body a.on_instr_pos g.V.OpCheck.check (g.V.OpCheck.state a.validator) in
    let by = input_for a.out.now a.module.now a.args.now in
    let middle = c.write_body-made.new.sink in
    let last = c.finish_to.new.sink in
    let takes = g.S.ByteSink.takes in
    let refuses = g.S.ByteSink.refuses in
    let composes = λ (xs : List ℕ) (has_map : Bool). OfWhole takes a.sink.now middle (Composes g.F.Fn (record i { bytes = xs }) by has_map) in
    let leaves = λ (xs : List ℕ) (has_map : Bool). LeavesSink g.F.Fn (record i { bytes = xs }) by takes refuses a.sink.now middle has_map in
    let kept = c.of_lists-draft.result.has_map in
    let ok = subst (λ (d : Drafted). IfOk made (composes i.bytes d.has_map)) c.of_lists-draft.ensures (subst (λ (xs : List ℕ). IfOk made (composes xs kept)) c.operators-ops.ensures c.write_body-made.ensures.ok) in
    let err = subst (λ (d : Drafted). IfErr made (leaves i.bytes d.has_map)) c.of_lists-draft.ensures (subst (λ (xs : List ℕ). IfErr made (leaves xs kept)) c.operators-ops.ensures c.write_body-made.ensures.leaves) in
    leaves_to g.F.Fn i by takes refuses a.sink.now middle last a.needs_pairs _ made ok err c.finish_to.result c.finish_to.ensures.finishes c.finish_to.ensures.ends
