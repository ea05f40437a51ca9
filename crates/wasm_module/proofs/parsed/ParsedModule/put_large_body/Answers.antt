use Rattle.std.proofs.Common.{◌≡◌, ◌+◌, ℕ, List, [], length, refl, sym, ap, subst, ◌∙◌, arith}
use Rattle.wasm_body.specs.Pairs.{Pair}
use Rattle.wasm_operators.specs.Shortest.{short_number}
use Rattle.wasm_sections.specs.CodeSections.{body_at}
use Rattle.wasm_module.proofs.ModuleLemmas.{extends_then, then_ok}
use Rattle.wasm_module.proofs.ToldLemmas.{told_in_pieces}
use Rattle.wasm_module.proofs.WritingLemmas.{puts_entry, if_so}
use Rattle.wasm_module.proofs.parsed.ParsedModule.put_large_body.Goals as goal

pub returns-clause-extends : goal.returns-clause-extends
returns-clause-extends g c =
    then_ok c.place_after.result
    (extends_then c.args.self.now c.measure_large_body.new.parsed c.put_in_pieces.new.self c.in_ok-measured.ensures.extends c.in_ok-len.ensures.extends)

pub returns-clause-written : goal.returns-clause-written
returns-clause-written g c = λ source e.
    let contents = g.W.Write.contents in
    let measured = extends_then source c.args.self.now c.measure_large_body.new.parsed e c.in_ok-measured.ensures.extends in
    let made = c.in_ok-len.ensures.written source measured in
    let same = c.if-len-measured.false in
    let known : ℕ = c.in_ok-measured.measured.len in
    let start = c.in_ok-start.start in
    let count : known ≡ length made.raw = omega (arith, made.len_is, same) in
    let b = body_at c.args.body.now.from in
    let place = c.args.at + length (short_number (length made.raw)) in
    let begins : place ≡ start = sym (c.in_ok-start.ensures.written.end_is ∙ ap (λ (n : ℕ). c.args.at + length (short_number n)) count) in
    let records = g.T.MapSink.records in
    let old = c.args.sink.now in
    let between = c.record_body.new.self in
    let none : List Pair = [] in
    let told =
    told_in_pieces records old between c.put_in_pieces.new.sink b.start start b.start place c.args.body.now.needs_pairs made.pairs
    (subst (λ (n : ℕ). records old between (record { old_start = n; start = start; pairs = none })) c.start-old_start.ensures.place c.in_ok-record_body.ensures) made.told refl begins in
    if_so c.place_after.result c.place_after.ensures (λ end is. record {
      raw = made.raw;
      pairs = made.pairs;
      is_written = made.is_written;
      fits = omega (arith, count, c.in_ok-start.ensures.fits);
      puts = puts_entry (contents c.args.out.now) (contents c.put_number.new.out) (contents c.put_in_pieces.new.out) c.args.at start end known made.raw
          c.in_ok-start.ensures.written count made.appends (omega (arith, is, same));
      told = told;
    })
