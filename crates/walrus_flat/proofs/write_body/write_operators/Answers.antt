use Rattle.std.proofs.Common.{inl, ◌≡◌, suc, length, rules, refl, subst}
use Rattle.std.specs.Bool.{OnTrue, OnFalse}
use Rattle.walrus_flat.specs.Sinks.{IsLeft, IsLast}
use Rattle.walrus_flat.specs.Writers.{env_at}
use Rattle.walrus_flat.specs.WrittenBody.{again}
use Rattle.walrus_flat.proofs.WrittenLoop.{begins_writing, passed, may_call_from_here, some_moves, some_written, goes_over, stops, completes}
use Rattle.walrus_flat.proofs.SinkLemmas.{last_offered}
use Rattle.walrus_flat.proofs.write_body.write_operators.Goals as goal

pub loop-writer-init : goal.loop-writer-init
loop-writer-init g c =
    let a = c.args in
    begins_writing g.F.Fn (again (env_at a.writer.now a.writer.now.ty) a.reader.now a.writer.now.«module».now.code_section_offset a.on_instr_pos) a.writer.now g.S.ByteSink.takes a.sink.now refl refl c.requires.accepted c.requires.begins (g.met.S.ByteSink.nothing a.sink.now)

pub write_some-requires-clause-may_call : goal.write_some-requires-clause-may_call
write_some-requires-clause-may_call g c =
    let a = c.args in
    let i = again (env_at a.writer.now a.writer.now.ty) a.reader.now a.writer.now.«module».now.code_section_offset a.on_instr_pos in
    let l = c.loop-writer in
    may_call_from_here g.F.Fn i a.writer.now g.S.ByteSink.takes a.sink.now l.writer l.sink l.reader.place l.reader.rest l.invariant (λ f x. g.F.Fn.pre f (x, tt)) c.requires.may_call

pub loop-writer-preserved : goal.loop-writer-preserved
loop-writer-preserved g c =
    let a = c.args in
    let i = again (env_at a.writer.now a.writer.now.ty) a.reader.now a.writer.now.«module».now.code_section_offset a.on_instr_pos in
    let now = c.loop-writer.reader in
    let takes = g.S.ByteSink.takes in
    let from = c.loop-writer.sink in
    let sink = c.pass_to.new.sink in
    let w = c.loop-writer.writer in
    let here = record w { draft = c.pass_to.new.draft } in
    let hand = subst (λ b. OnTrue b (IsLeft takes from sink w.draft c.pass_to.new.draft)) c.if-not-pass_to.false c.pass_to.ensures.passes in
    let took = passed g.F.Fn i a.writer.now takes a.sink.now w from sink now.place now.rest c.pass_to.new.draft g.met.S.ByteSink.one_by_one hand c.loop-writer.invariant in
    let n = c.in-Ok.ensures in
    goes_over g.F.Fn i a.writer.now takes a.sink.now refl sink now here took (suc n.0) c.write_some.new.reader c.write_some.new.writer n.1

pub loop-writer-smaller : goal.loop-writer-smaller
loop-writer-smaller g c =
    let here = record c.loop-writer.writer { draft = c.pass_to.new.draft } in
    let n = c.in-Ok.ensures in
    some_moves g.F.Fn c.args.on_instr_pos n.0 c.loop-writer.reader c.write_some.new.reader here c.write_some.new.writer n.1

pub returns-then-not-pass_to : goal.returns-then-not-pass_to
returns-then-not-pass_to g c =
    let a = c.args in
    let i = again (env_at a.writer.now a.writer.now.ty) a.reader.now a.writer.now.«module».now.code_section_offset a.on_instr_pos in
    let now = c.loop-writer.reader in
    let takes = g.S.ByteSink.takes in
    let refuses = g.S.ByteSink.refuses in
    let from = c.loop-writer.sink in
    let sink = c.pass_to.new.sink in
    let w = c.loop-writer.writer in
    let last = subst (λ b. OnFalse b (IsLast refuses from sink w.draft)) c.if-not-pass_to.true c.pass_to.ensures.stays in
    let front = some_written g.F.Fn i a.writer.now takes a.sink.now w from now.place now.rest c.loop-writer.invariant in
    (inl refl, last_offered takes refuses a.sink.now sink _ from w.draft front last)

pub returns-in-Err : goal.returns-in-Err
returns-in-Err g c =
    let a = c.args in
    let i = again (env_at a.writer.now a.writer.now.ty) a.reader.now a.writer.now.«module».now.code_section_offset a.on_instr_pos in
    let now = c.loop-writer.reader in
    let takes = g.S.ByteSink.takes in
    let from = c.loop-writer.sink in
    let sink = c.pass_to.new.sink in
    let w = c.loop-writer.writer in
    let here = record w { draft = c.pass_to.new.draft } in
    let hand = subst (λ b. OnTrue b (IsLeft takes from sink w.draft c.pass_to.new.draft)) c.if-not-pass_to.false c.pass_to.ensures.passes in
    let took = passed g.F.Fn i a.writer.now takes a.sink.now w from sink now.place now.rest c.pass_to.new.draft g.met.S.ByteSink.one_by_one hand c.loop-writer.invariant in
    let n = c.in-Err.ensures in
    let e = c.in-Err.fault in
    let refuses = g.S.ByteSink.refuses in
    let front = some_written g.F.Fn i a.writer.now takes a.sink.now here sink now.place now.rest took in (
      stops g.F.Fn i a.writer.now takes a.sink.now refl sink now here took n.0 n.1 n.2 e n.3 n.4,
      record { middle = sink; left = here.draft; of_whole = front; last = inl refl },
    )

pub returns : goal.returns
returns g c =
    let a = c.args in
    let i = again (env_at a.writer.now a.writer.now.ty) a.reader.now a.writer.now.«module».now.code_section_offset a.on_instr_pos in
    let now = c.loop-writer.reader in
    let none : length now.rest ≡ 0 = search rules in
    completes g.F.Fn i a.writer.now g.S.ByteSink.takes a.sink.now c.loop-writer.writer c.loop-writer.sink now.place now.rest c.loop-writer.invariant c.requires.offset none
