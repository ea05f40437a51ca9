use Rattle.std.proofs.Common.{◌≡◌, ◌<◌, ◌^◌, ◌+◌, ℕ, ◌∷◌, length, refl, ap, subst, arith}
use Rattle.wasm_operators.specs.Shortest.{short_number}
use Rattle.wasm_sections.specs.Sections.{section, section_at}
use Rattle.wasm_module.specs.ToldBodies.{IsTold}
use Rattle.wasm_module.specs.ToldModules.{code_told}
use Rattle.wasm_module.specs.WrittenModules.IsWrittenFor.{code}
use Rattle.wasm_module.proofs.WritingLemmas.{puts_then, puts_same}
use Rattle.wasm_module.proofs.parsed.ParsedModule.put_code_section.Goals as goal

pub returns-in-true-clause-written : goal.returns-in-true-clause-written
returns-in-true-clause-written g c = λ source e is_code.
    let w = c.in_ok-end.ensures.written source e in
    let writes = g.B.BodyWriter.writes c.args.rewritten.now.bodies in
    let old = g.W.Write.contents c.args.out.now in
    let middle = g.W.Write.contents c.put_header.new.out in
    let new = g.W.Write.contents c.put_code.new.out in
    let known = c.args.rewritten.now.code.len in
    let same = c.in-true.is in
    let end_is = w.puts.end_is in
    let len : known ≡ length w.contents = omega (arith, c.in_ok-place_after.ensures) in
    let header = puts_same old middle c.args.at c.in_ok-at.at (10 ∷ short_number known) (10 ∷ short_number (length w.contents)) (ap (λ (n : ℕ). 10 ∷ short_number n) len) c.in_ok-at.ensures.written in
    let fits : length w.contents < 2 ^ 32 = omega (arith, len, c.in_ok-at.ensures.fits) in
    record {
      text = section 10 w.contents;
      is_written = code w.code w.contents is_code w.is_written w.has_items (fits, refl);
      puts = puts_then old middle new c.args.at c.in_ok-at.at c.in_ok-end.end (10 ∷ short_number (length w.contents)) w.contents header w.puts;
      told = subst (λ (n : ℕ). IsTold g.T.MapSink.records g.T.MapSink.needs c.args.sink.now (code_told writes source n (w.has_items.count + w.has_items.more) (section_at c.args.section.now) w.code w.is_written) c.put_code.new.sink)
          header.end_is w.told;
    }
