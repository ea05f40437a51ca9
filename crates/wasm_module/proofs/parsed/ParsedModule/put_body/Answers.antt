use Rattle.std.proofs.Common.{◌≡◌, ◌+◌, ℕ, List, length, sym, ap, subst, ◌∙◌}
use Rattle.wasm_operators.specs.Shortest.{short_number}
use Rattle.wasm_sections.specs.CodeSections.{body_at}
use Rattle.wasm_module.specs.WrittenModules.{FitsSize}
use Rattle.wasm_module.proofs.ToldLemmas.{told_at_once}
use Rattle.wasm_module.proofs.WritingLemmas.{puts_then, puts_same, if_so}
use Rattle.wasm_module.proofs.parsed.ParsedModule.put_body.Goals as goal

pub returns-clause-written : goal.returns-clause-written
returns-clause-written g c = λ source e.
    let raw = c.write_body.new.scratch.raw.items in
    let contents = g.W.Write.contents in
    let before = contents c.args.out.now in
    let sized = contents c.put_number.new.out in
    let after = contents c.put.new.out in
    let is_raw = c.as_slice-raw.ensures.value in
    let start = c.in_ok-start.start in
    let given : ℕ = length c.as_slice-raw.result.now in
    let len : short_number given ≡ short_number (length raw) = ap (λ (l : List ℕ). short_number (length l)) is_raw in
    let header = puts_same before sized c.args.at start (short_number given) (short_number (length raw)) len c.in_ok-start.ensures.written in
    let made = c.in_ok-write_body.ensures.written source e in
    let b = body_at c.args.body.now.from in
    let place = c.args.at + length (short_number (length raw)) in
    let told =
    told_at_once g.T.MapSink.records c.args.sink.now c.record_body.new.self c.start-old_start.result start b.start place c.args.body.now.needs_pairs c.pairs_if-pairs.result.now c.write_body.new.scratch.pairs.items made.0
    c.in_ok-record_body.ensures c.pairs_if-pairs.ensures (λ wanted. made.2 (c.if_pairs-needed.ensures ∙ wanted)) (sym c.start-old_start.ensures.place) (sym header.end_is) in
    if_so c.put.result c.put.ensures (λ end puts. record {
      raw = raw;
      pairs = made.0;
      is_written = made.1;
      fits = subst FitsSize is_raw c.in_ok-start.ensures.fits;
      puts = puts_then before sized after c.args.at start end (short_number (length raw)) raw header (puts_same sized after start end c.as_slice-raw.result.now raw is_raw puts);
      told = told;
    })
