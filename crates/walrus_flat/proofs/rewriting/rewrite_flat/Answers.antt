use Rattle.std.proofs.Common.{◌≡◌, ◌≤◌, ◌<◌, ◌+◌, ◌^◌, ℕ, List, length, drop, Bool, true, false, refl, ap, subst, arith}
use Rattle.std.specs.Prelude.{IfOk, IfErr, OnErr}
use Rattle.walrus_parser.specs.Bodies.{body_input}
use Rattle.walrus_parser.proofs.BodySources.{readable}
use Rattle.walrus_rewrite.specs.RawBodies.{input_for}
use Rattle.walrus_rewrite.specs.RewrittenBodies.{RefusesRewriting}
use Rattle.wasm_body.specs.Pairs.{Pair}
use Rattle.walrus_emit_state.specs.TreeWriting.Drafts.{Drafted}
use Rattle.walrus_flat.specs.RewrittenFlat.{Composes, FinishesBytes, FinishesBoth}
use Rattle.walrus_flat.proofs.SinkLemmas.{if_in_memory}
use Rattle.walrus_flat.proofs.FlatResults.{flat_with_map, flat_without_map, accepts_to, refused_to, each_body, each_fault}
use Rattle.walrus_flat.proofs.rewriting.rewrite_flat.Goals as goal

pub write_body-with_pairs-requires-clause-readable : goal.write_body-with_pairs-requires-clause-readable
write_body-with_pairs-requires-clause-readable g c = readable _ _ c.args.body refl c.operators-ops.ensures c.requires.ops c.requires.offset c.requires.fits c.requires.may_call

pub write_body-without-requires-clause-readable : goal.write_body-without-requires-clause-readable
write_body-without-requires-clause-readable g c = readable _ _ c.args.body refl c.operators-ops.ensures c.requires.ops c.requires.offset c.requires.fits c.requires.may_call

pub returns-in-Some-clause-rewritten : goal.returns-in-Some-clause-rewritten
returns-in-Some-clause-rewritten g c =
    let a = c.args in
    let made = c.write_body-with_pairs.result in
    let i = body_input a.module.now a.indices.now a.id a.ty a.body a.on_instr_pos g.V.OpCheck.check (g.V.OpCheck.state a.validator) in
    let by = input_for a.out.now a.module.now a.args.now in
    let composes = λ (xs : List ℕ) (has_map : Bool). Composes g.F.Fn (record i { bytes = xs }) by has_map in
    let kept = c.of_lists-draft.result.has_map in
    let written = if_in_memory (composes c.operators-ops.result.now kept) _ _ made c.write_body-with_pairs.ensures.ok in
    let ok = subst (λ (d : Drafted). IfOk made (composes i.bytes d.has_map)) c.of_lists-draft.ensures (subst (λ (xs : List ℕ). IfOk made (composes xs kept)) c.operators-ops.ensures written) in
    rw c.in-Some.is (flat_with_map g.F.Fn i by true made ok a.dst.now.items c.finish_with_map.new.dst.items refl c.in-Some.list _ c.finish_with_map.result (subst (λ (xs : List ℕ). FinishesBoth made xs c.finish_with_map.new.dst.items c.in-Some.list.now.items c.finish_with_map.new.map.items c.finish_with_map.result) c.list_to_write-bytes.ensures.same (subst (λ (ps : List Pair). FinishesBoth made c.list_to_write-bytes.new.list.items c.finish_with_map.new.dst.items ps c.finish_with_map.new.map.items c.finish_with_map.result) c.list_to_write-pairs.ensures.same c.finish_with_map.ensures.finishes)))

pub returns-in-Some-clause-refused : goal.returns-in-Some-clause-refused
returns-in-Some-clause-refused g c =
    let a = c.args in
    let made = c.write_body-with_pairs.result in
    let i = body_input a.module.now a.indices.now a.id a.ty a.body a.on_instr_pos g.V.OpCheck.check (g.V.OpCheck.state a.validator) in
    let by = input_for a.out.now a.module.now a.args.now in
    let err = subst (λ (xs : List ℕ). IfErr made (RefusesRewriting g.F.Fn (record i { bytes = xs }) by)) c.operators-ops.ensures c.write_body-with_pairs.ensures.err in
    refused_to g.F.Fn i by _ made err c.finish_with_map.result c.finish_with_map.ensures.finishes

pub returns-in-Some-clause-each_body : goal.returns-in-Some-clause-each_body
returns-in-Some-clause-each_body g c locations b both accepted =
    let a = c.args in
    let made = c.write_body-with_pairs.result in
    let i = body_input a.module.now a.indices.now a.id a.ty a.body a.on_instr_pos g.V.OpCheck.check (g.V.OpCheck.state a.validator) in
    let by = input_for a.out.now a.module.now a.args.now in
    let err = subst (λ (xs : List ℕ). IfErr made (RefusesRewriting g.F.Fn (record i { bytes = xs }) by)) c.operators-ops.ensures c.write_body-with_pairs.ensures.err in
    each_body g.F.Fn i by locations b both accepted c.finish_with_map.result (refused_to g.F.Fn i by _ made err c.finish_with_map.result c.finish_with_map.ensures.finishes)

pub returns-in-Some-clause-each_fault : goal.returns-in-Some-clause-each_fault
returns-in-Some-clause-each_fault g c locations f both fault =
    let a = c.args in
    let made = c.write_body-with_pairs.result in
    let i = body_input a.module.now a.indices.now a.id a.ty a.body a.on_instr_pos g.V.OpCheck.check (g.V.OpCheck.state a.validator) in
    let by = input_for a.out.now a.module.now a.args.now in
    let composes = λ (xs : List ℕ) (has_map : Bool). Composes g.F.Fn (record i { bytes = xs }) by has_map in
    let kept = c.of_lists-draft.result.has_map in
    let written = if_in_memory (composes c.operators-ops.result.now kept) _ _ made c.write_body-with_pairs.ensures.ok in
    let ok = subst (λ (d : Drafted). IfOk made (composes i.bytes d.has_map)) c.of_lists-draft.ensures (subst (λ (xs : List ℕ). IfOk made (composes xs kept)) c.operators-ops.ensures written) in
    let err = subst (λ (xs : List ℕ). IfErr made (RefusesRewriting g.F.Fn (record i { bytes = xs }) by)) c.operators-ops.ensures c.write_body-with_pairs.ensures.err in
    each_fault g.F.Fn i by locations f both fault c.finish_with_map.result (accepts_to g.F.Fn i by true _ made ok c.finish_with_map.result c.finish_with_map.ensures.finishes) (refused_to g.F.Fn i by _ made err c.finish_with_map.result c.finish_with_map.ensures.finishes)

pub returns-in-Some-clause-same_pairs : goal.returns-in-Some-clause-same_pairs
returns-in-Some-clause-same_pairs g c =
    rw c.in-Some.is (subst (λ (ps : List Pair). OnErr c.finish_with_map.result (c.finish_with_map.new.map.items ≡ ps)) c.list_to_write-pairs.ensures.same c.finish_with_map.ensures.same_pairs)

pub returns-in-None-clause-rewritten : goal.returns-in-None-clause-rewritten
returns-in-None-clause-rewritten g c =
    let a = c.args in
    let made = c.write_body-without.result in
    let i = body_input a.module.now a.indices.now a.id a.ty a.body a.on_instr_pos g.V.OpCheck.check (g.V.OpCheck.state a.validator) in
    let by = input_for a.out.now a.module.now a.args.now in
    let composes = λ (xs : List ℕ) (has_map : Bool). Composes g.F.Fn (record i { bytes = xs }) by has_map in
    let kept = c.of_lists-draft-in-None.result.has_map in
    let written = if_in_memory (composes c.operators-ops.result.now kept) _ _ made c.write_body-without.ensures.ok in
    let ok = subst (λ (d : Drafted). IfOk made (composes i.bytes d.has_map)) c.of_lists-draft-in-None.ensures (subst (λ (xs : List ℕ). IfOk made (composes xs kept)) c.operators-ops.ensures written) in
    rw c.in-None.is (flat_without_map g.F.Fn i by false made ok a.dst.now.items c.finish.new.dst.items _ c.finish.result (subst (λ (xs : List ℕ). FinishesBytes made xs c.finish.new.dst.items c.finish.result) c.list_to_write-alone.ensures.same c.finish.ensures.finishes))

pub returns-in-None-clause-refused : goal.returns-in-None-clause-refused
returns-in-None-clause-refused g c =
    let a = c.args in
    let made = c.write_body-without.result in
    let i = body_input a.module.now a.indices.now a.id a.ty a.body a.on_instr_pos g.V.OpCheck.check (g.V.OpCheck.state a.validator) in
    let by = input_for a.out.now a.module.now a.args.now in
    let err = subst (λ (xs : List ℕ). IfErr made (RefusesRewriting g.F.Fn (record i { bytes = xs }) by)) c.operators-ops.ensures c.write_body-without.ensures.err in
    refused_to g.F.Fn i by _ made err c.finish.result c.finish.ensures.finishes

pub returns-in-None-clause-each_body : goal.returns-in-None-clause-each_body
returns-in-None-clause-each_body g c locations b both accepted =
    let a = c.args in
    let made = c.write_body-without.result in
    let i = body_input a.module.now a.indices.now a.id a.ty a.body a.on_instr_pos g.V.OpCheck.check (g.V.OpCheck.state a.validator) in
    let by = input_for a.out.now a.module.now a.args.now in
    let err = subst (λ (xs : List ℕ). IfErr made (RefusesRewriting g.F.Fn (record i { bytes = xs }) by)) c.operators-ops.ensures c.write_body-without.ensures.err in
    each_body g.F.Fn i by locations b both accepted c.finish.result (refused_to g.F.Fn i by _ made err c.finish.result c.finish.ensures.finishes)

pub returns-in-None-clause-each_fault : goal.returns-in-None-clause-each_fault
returns-in-None-clause-each_fault g c locations f both fault =
    let a = c.args in
    let made = c.write_body-without.result in
    let i = body_input a.module.now a.indices.now a.id a.ty a.body a.on_instr_pos g.V.OpCheck.check (g.V.OpCheck.state a.validator) in
    let by = input_for a.out.now a.module.now a.args.now in
    let composes = λ (xs : List ℕ) (has_map : Bool). Composes g.F.Fn (record i { bytes = xs }) by has_map in
    let kept = c.of_lists-draft-in-None.result.has_map in
    let written = if_in_memory (composes c.operators-ops.result.now kept) _ _ made c.write_body-without.ensures.ok in
    let ok = subst (λ (d : Drafted). IfOk made (composes i.bytes d.has_map)) c.of_lists-draft-in-None.ensures (subst (λ (xs : List ℕ). IfOk made (composes xs kept)) c.operators-ops.ensures written) in
    let err = subst (λ (xs : List ℕ). IfErr made (RefusesRewriting g.F.Fn (record i { bytes = xs }) by)) c.operators-ops.ensures c.write_body-without.ensures.err in
    each_fault g.F.Fn i by locations f both fault c.finish.result (accepts_to g.F.Fn i by false _ made ok c.finish.result c.finish.ensures.finishes) (refused_to g.F.Fn i by _ made err c.finish.result c.finish.ensures.finishes)
