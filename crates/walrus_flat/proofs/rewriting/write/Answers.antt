use Rattle.std.proofs.Common.{◌≡◌, ◌≤◌, ◌+◌, ◌⊎◌, length, sym, subst}
use Rattle.wasm_ops.specs.Position.{Position}
use Rattle.wasm_body.specs.declared.error.EmitError.TheVariants.{Memory}
use Rattle.walrus_parser.specs.BodySources.{source_environment}
use Rattle.walrus_numbering.specs.NumberMaps.{numbers_by}
use Rattle.walrus_validators.specs.Locating.{MayCall}
use Rattle.walrus_flat.specs.UsedLocals.{entries_of}
use Rattle.walrus_flat.specs.Sinks.{OfWhole, TookFront}
use Rattle.walrus_flat.specs.WrittenBody.{again, source_again, IsAcceptedBody, WritesBody, WritesFirst, RefusesWriting}
use Rattle.walrus_flat.proofs.SinkLemmas.{nothing_offered}
use Rattle.walrus_flat.proofs.WrittenLoop.{none_written}
use Rattle.walrus_flat.proofs.rewriting.write.Goals as goal

pub write_operators-requires-clause-begins : goal.write_operators-requires-clause-begins
write_operators-requires-clause-begins g c = c.in-Ok.ensures.ok

pub write_operators-requires-clause-offset : goal.write_operators-requires-clause-offset
write_operators-requires-clause-offset g c = subst (λ (p : Position). c.args.source.module.now.code_section_offset ≤ p.place) (sym c.new-reader.ensures) c.requires.readable.offset

pub write_operators-requires-clause-may_call : goal.write_operators-requires-clause-may_call
write_operators-requires-clause-may_call g c = subst (λ (p : Position). MayCall (λ f x. g.F.Fn.pre f (x, tt)) c.args.source.on_instr_pos p.place (p.place + length p.rest)) (sym c.new-reader.ensures) c.requires.readable.may_call

pub write_operators-requires-clause-accepted : goal.write_operators-requires-clause-accepted
write_operators-requires-clause-accepted g c =
    let a = c.args in
    let s = a.source in
    subst (λ (p : Position). IsAcceptedBody (again (source_environment s) p s.module.now.code_section_offset s.on_instr_pos)) (sym c.new-reader.ensures) c.requires.accepted

pub returns-in-Ok-write_operators-clause-ok : goal.returns-in-Ok-write_operators-clause-ok
returns-in-Ok-write_operators-clause-ok g c =
    let a = c.args in
    let s = a.source in
    let to = numbers_by s.module.now.types a.target.out.now (entries_of a.locals.now) in
    let new = c.write_operators.new.writer.draft in
    subst (λ (p : Position). OfWhole g.S.ByteSink.takes a.sink.now c.write_operators.new.sink (WritesBody g.F.Fn (again (source_environment s) p s.module.now.code_section_offset s.on_instr_pos) to a.draft) new) c.new-reader.ensures c.in-Ok-write_operators.ensures

pub returns-in-Err-write_operators-clause-err : goal.returns-in-Err-write_operators-clause-err
returns-in-Err-write_operators-clause-err g c =
    let a = c.args in
    let s = a.source in
    let to = numbers_by s.module.now.types a.target.out.now (entries_of a.locals.now) in
    subst (λ (p : Position). (c.in-Err-write_operators.fault ≡ Memory) ⊎ RefusesWriting g.F.Fn (again (source_environment s) p s.module.now.code_section_offset s.on_instr_pos) to c.in-Err-write_operators.fault)
    c.new-reader.ensures c.in-Err-write_operators.ensures.0

pub returns-in-Err-write_operators-clause-leaves : goal.returns-in-Err-write_operators-clause-leaves
returns-in-Err-write_operators-clause-leaves g c =
    let a = c.args in
    let s = a.source in
    let to = numbers_by s.module.now.types a.target.out.now (entries_of a.locals.now) in
    let k = g.S.ByteSink in
    subst (λ (p : Position). TookFront k.takes k.refuses a.sink.now c.write_operators.new.sink (WritesFirst g.F.Fn (again (source_environment s) p s.module.now.code_section_offset s.on_instr_pos) to a.draft) c.in-Err-write_operators.fault)
    c.new-reader.ensures c.in-Err-write_operators.ensures.1

pub returns-in-Err-clause-leaves : goal.returns-in-Err-clause-leaves
returns-in-Err-clause-leaves g c =
    let a = c.args in
    let s = a.source in
    let to = numbers_by s.module.now.types a.target.out.now (entries_of a.locals.now) in
    let k = g.S.ByteSink in
    nothing_offered k.takes k.refuses a.sink.now a.sink.now _ c.in-Err.fault a.draft (g.met.S.ByteSink.nothing a.sink.now)
    (none_written g.F.Fn (source_again s) to c.requires.accepted a.draft)
