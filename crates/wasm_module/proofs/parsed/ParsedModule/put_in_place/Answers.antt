use Rattle.std.proofs.Common.{◌≡◌, ◌≢◌, [], refl, rules}
use Rattle.wasm_sections.specs.Sections.{section_id, section}
use Rattle.wasm_module.specs.WrittenModules.IsWrittenFor.{replaced, carried_over, omitted}
use Rattle.wasm_module.proofs.ModuleLemmas.{extends_same, then_ok}
use Rattle.wasm_module.proofs.WriterLemmas.{if_both}
use Rattle.wasm_module.proofs.WritingLemmas.{puts_nothing, if_so}
use Rattle.wasm_module.proofs.parsed.ParsedModule.put_in_place.Goals as goal

pub returns-then-eq-clause-written : goal.returns-then-eq-clause-written
returns-then-eq-clause-written g c = λ source e.
    let is_code : section_id c.args.section.now.kind ≡ 10 = search rules in
    c.put_code_section.ensures.written source e is_code

pub returns-in-Some-clause-extends : goal.returns-in-Some-clause-extends
returns-in-Some-clause-extends g c = then_ok c.put_section.result (extends_same c.args.self.now)

pub returns-in-None-clause-extends : goal.returns-in-None-clause-extends
returns-in-None-clause-extends g c = then_ok c.put.result (extends_same c.args.self.now)

pub returns-in-Some-clause-written : goal.returns-in-Some-clause-written
returns-in-Some-clause-written g c = λ source e.
    let kind = c.args.section.now.kind in
    let contents = c.in-Some.contents.now in
    let not_code : section_id kind ≢ 10 = search rules in
    if_both c.put_section.result c.put_section.ensures.fits c.put_section.ensures.written (λ end fits p. record {
      text = section (section_id kind) contents;
      is_written = replaced contents not_code (c.in_ok-omits.ensures.no c.if-branch.false) c.in-Some.ensures.some (fits, refl);
      puts = p;
      told = refl;
    })

pub returns-then-branch-clause-extends : goal.returns-then-branch-clause-extends
returns-then-branch-clause-extends g c = extends_same c.args.self.now

pub returns-then-branch-clause-written : goal.returns-then-branch-clause-written
returns-then-branch-clause-written g c = λ source e. record {
  text = [];
  is_written = omitted (c.in_ok-omits.ensures.yes c.if-branch.true) refl;
  puts = puts_nothing (g.W.Write.contents c.args.out.now) c.args.at;
  told = refl;
}

pub returns-in-None-clause-written : goal.returns-in-None-clause-written
returns-in-None-clause-written g c = λ source e.
    let not_code : section_id c.args.section.now.kind ≢ 10 = search rules in
    if_so c.put.result c.put.ensures (λ end p. record {
      text = c.args.section.now.whole.now;
      is_written = carried_over not_code (c.in_ok-omits.ensures.no c.if-branch.false) c.in-None.ensures.none refl;
      puts = p;
      told = refl;
    })
