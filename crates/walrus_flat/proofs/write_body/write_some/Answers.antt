use Rattle.std.proofs.Common.{◌≡◌, ◌<◌, ◌+◌, inl, inr, length, List, arith, suc, Ok, Err, refl, sym, subst, ℕ}
use Rattle.std.specs.Prelude.{IfOk, IfErr}
use Rattle.std.proofs.lemmas.Result.{IfOk-at_ok, IfErr-at_err}
use Rattle.wasm_ops.specs.Position.{Position, IsAfter}
use Rattle.wasm_numbers.specs.declared.fault.ReadError.{ReadError}
use Rattle.wasm_operators.specs.Spelling.{Spells, read_operation}
use Rattle.wasm_operators.specs.Meaning.{meaning}
use Rattle.walrus_validators.specs.Locating.{MayCall, Locates, HasNoLocation}
use Rattle.walrus_parser.proofs.Mappings.{may_call_next}
use Rattle.walrus_flat.specs.declared.writer.Writer.{Writer}
use Rattle.walrus_flat.specs.WrittenBody.{WritesNextAtOnce}
use Rattle.walrus_flat.specs.Writers.{StepsWriter}
use Rattle.walrus_flat.proofs.WrittenLoop.{number_moves, some_number}
use Rattle.walrus_flat.proofs.write_body.write_some.Goals as goal

pub loop-reader-init : goal.loop-reader-init
loop-reader-init g c = (0, (refl, refl))

pub location_at-requires : goal.location_at-requires
location_at-requires g c =
    let a = c.args in
    let now = c.loop-reader.reader in
    let i = c.loop-reader.invariant in
    let moves = number_moves g.F.Fn a.on_instr_pos i.0 a.reader.now now a.writer.now c.loop-reader.writer i.1 in
    let some : 0 < length now.rest = omega arith in
    subst (λ n. MayCall (λ f x. g.F.Fn.pre f (x, tt)) a.on_instr_pos n (n + 1)) (sym c.original_position-at.ensures)
    (may_call_next (λ f x. g.F.Fn.pre f (x, tt)) a.on_instr_pos a.reader.now.place (a.reader.now.place + length a.reader.now.rest) now.place (omega (arith, moves.0, moves.1)) (omega (arith, moves.0, some)) c.requires.may_call)

-- ---- a common operator

pub loop-reader-preserved-then-write_at_once : goal.loop-reader-preserved-then-write_at_once
loop-reader-preserved-then-write_at_once g c =
    let a = c.args in
    let now = c.loop-reader.reader in
    let w = c.loop-reader.writer in
    let so = c.loop-reader.invariant in
    let location = c.in-Some.location in
    let t = subst (WritesNextAtOnce now c.write_at_once.new.reader w c.write_at_once.new.writer location) c.if-write_at_once.true c.write_at_once.ensures in
    let located : Locates g.F.Fn a.on_instr_pos now.place location = subst (λ p. Locates g.F.Fn a.on_instr_pos p location) c.original_position-at.ensures c.in-Some.ensures in
    (suc so.0, (now, w, so.1, record { operator = meaning t.0; is_read = t.1; text = t.2.0; spells = t.2.1; moves = t.3; location = location; located = located; step = t.4 }))

-- ---- any other

pub returns-in_default : goal.returns-in_default
returns-in_default g c =
    let a = c.args in
    let so = c.loop-reader.invariant in (
      so.0,
      c.loop-reader.reader,
      c.loop-reader.writer,
      so.1,
      record {
        some = omega arith;
        why = inl (subst (HasNoLocation a.on_instr_pos) c.original_position-at.ensures c.in_default.ensures);
      },
    )

pub returns-in-Err : goal.returns-in-Err
returns-in-Err g c =
    let now = c.loop-reader.reader in
    let w = c.loop-reader.writer in
    let so = c.loop-reader.invariant in
    let not = subst (WritesNextAtOnce now c.write_at_once.new.reader w c.write_at_once.new.writer c.in-Some.location) c.if-write_at_once.false c.write_at_once.ensures in
    let e = c.in-Err.field-0 in
    let known : (read_operation now.rest ≡ Err e.fault) × (e.at ≡ now.place) = IfErr-at_err (λ (e : ReadError). (read_operation now.rest ≡ Err e.fault) × (e.at ≡ now.place)) c.in-Err.is (subst (λ (r : Position). IfErr c.read_other-read.result (λ (e : ReadError). (read_operation r.rest ≡ Err e.fault) × (e.at ≡ r.place))) not.0 c.read_other-read.ensures.err) in
    (so.0, now, w, so.1, record { some = omega arith; why = inr (inl (e.fault, known.0)) })

pub loop-reader-preserved : goal.loop-reader-preserved
loop-reader-preserved g c =
    let a = c.args in
    let now = c.loop-reader.reader in
    let w = c.loop-reader.writer in
    let so = c.loop-reader.invariant in
    let location = c.in-Some.location in
    let not = subst (WritesNextAtOnce now c.write_at_once.new.reader w c.write_at_once.new.writer location) c.if-write_at_once.false c.write_at_once.ensures in
    let next = c.read_other-read.new.self in
    let o = meaning c.in-Ok.operator in
    let read : read_operation now.rest ≡ Ok (o, next.rest) = IfOk-at_ok (λ x. read_operation now.rest ≡ Ok (meaning x, next.rest)) c.in-Ok.is (subst (λ (r : Position). IfOk c.read_other-read.result (λ x. read_operation r.rest ≡ Ok (meaning x, c.read_other-read.new.self.rest))) not.0 c.read_other-read.ensures.is_read) in
    let spelt : (text : List ℕ) × Spells o text = IfOk-at_ok (λ x. (text : List ℕ) × Spells (meaning x) text) c.in-Ok.is c.read_other-read.ensures.spelt in
    let moves : IsAfter now next = IfOk-at_ok (λ _. IsAfter now next) c.in-Ok.is (subst (λ (r : Position). IfOk c.read_other-read.result (λ _. IsAfter r c.read_other-read.new.self)) not.0 c.read_other-read.ensures.moves) in
    let located : Locates g.F.Fn a.on_instr_pos now.place location = subst (λ p. Locates g.F.Fn a.on_instr_pos p location) c.original_position-at.ensures c.in-Some.ensures in (
      suc so.0,
      (
        now,
        w,
        so.1,
        record {
          operator = o;
          is_read = read;
          text = spelt.0;
          spells = spelt.1;
          moves = moves;
          location = location;
          located = located;
          step = subst (λ (k : Writer). StepsWriter k c.step.new.self o location (Ok tt)) not.1 c.in-Ok-step.ensures;
        },
      ),
    )

pub returns-in-Err-step : goal.returns-in-Err-step
returns-in-Err-step g c =
    let now = c.loop-reader.reader in
    let w = c.loop-reader.writer in
    let so = c.loop-reader.invariant in
    let location = c.in-Some.location in
    let not = subst (WritesNextAtOnce now c.write_at_once.new.reader w c.write_at_once.new.writer location) c.if-write_at_once.false c.write_at_once.ensures in
    let next = c.read_other-read.new.self in
    let o = meaning c.in-Ok.operator in
    let read : read_operation now.rest ≡ Ok (o, next.rest) = IfOk-at_ok (λ x. read_operation now.rest ≡ Ok (meaning x, next.rest)) c.in-Ok.is (subst (λ (r : Position). IfOk c.read_other-read.result (λ x. read_operation r.rest ≡ Ok (meaning x, c.read_other-read.new.self.rest))) not.0 c.read_other-read.ensures.is_read) in
    let spelt : (text : List ℕ) × Spells o text = IfOk-at_ok (λ x. (text : List ℕ) × Spells (meaning x) text) c.in-Ok.is c.read_other-read.ensures.spelt in
    let step = subst (λ (k : Writer). StepsWriter k c.step.new.self o location (Err c.in-Err-step.fault)) not.1 c.in-Err-step.ensures in
    (so.0, now, w, so.1, record { some = omega arith; why = inr (inr (o, next.rest, read, spelt, (location, c.step.new.self, step))) })

-- ---- at most so many bytes remain

pub returns : goal.returns
returns g c =
    let a = c.args in
    let so = c.loop-reader.invariant in
    some_number g.F.Fn a.on_instr_pos so.0 a.reader.now c.loop-reader.reader a.writer.now c.loop-reader.writer so.1 (omega (arith, c.requires.some))
