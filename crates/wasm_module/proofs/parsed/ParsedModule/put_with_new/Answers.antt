use Rattle.std.proofs.Common.{◌≡◌, ◌≢◌, ℕ, List, ◌++◌, sym, ap, subst, ◌∙◌, arith}
use Rattle.std.proofs.lemmas.List.{append-nil}
use Rattle.wasm_sections.specs.Sections.{rank, section_id, IsModule}
use Rattle.wasm_module.specs.WrittenModules.{new_after, new_after_section, NewFitAfter, NewFitAfterSection}
use Rattle.wasm_module.proofs.WritingLemmas.{if_both, puts_then}
use Rattle.wasm_module.proofs.NewSectionLemmas.{after_other, fit_after_other}
use Rattle.wasm_module.proofs.parsed.ParsedModule.put_with_new.Goals as goal

pub returns-then-rank-eq0-clause-written : goal.returns-then-rank-eq0-clause-written
returns-then-rank-eq0-clause-written g c = λ source all e m.
    let changes = c.args.rewritten.now.changes in
    let w = c.in_ok-end.ensures.written source e in
    let is_custom : 0 ≡ rank (section_id c.args.section.now.kind) = omega (arith, c.rank-rank.ensures) in
    record {
      text = w.text;
      is_written = record {
        own = w.text;
        is_written = w.is_written;
        text_is = sym (append-nil w.text) ∙ ap (λ (n : ℕ). w.text ++ new_after_section changes.given.items all n) is_custom;
        new_fit = subst (λ (n : ℕ). NewFitAfterSection changes.given.items all n) is_custom tt;
      };
      puts = w.puts;
      told = w.told;
    }

pub returns-clause-written : goal.returns-clause-written
returns-clause-written g c = λ source all e m.
    let contents = g.W.Write.contents in
    let changes = c.args.rewritten.now.changes in
    let r = rank (section_id c.args.section.now.kind) in
    let not_custom : r ≢ 0 = omega (arith, c.rank-rank.ensures) in
    let w = c.in_ok-end.ensures.written source e in
    let here = subst (λ (l : List ℕ). IsModule l all) (sym c.in_ok-end.ensures.extends.bytes) m in
    if_both c.put_new_after.result (c.put_new_after.ensures.written all here) (c.put_new_after.ensures.fits all here) (λ end puts fit. record {
      text = w.text ++ new_after changes.given.items all c.rank-rank.result;
      is_written = record {
        own = w.text;
        is_written = w.is_written;
        text_is =
            ap (λ (l : List ℕ). w.text ++ l)
            (ap (λ (n : ℕ). new_after changes.given.items all n) c.rank-rank.ensures ∙ after_other changes.given.items all r not_custom);
        new_fit =
            fit_after_other changes.given.items all r not_custom
            (subst (λ (n : ℕ). NewFitAfter changes.given.items all n) c.rank-rank.ensures fit);
      };
      puts =
          puts_then (contents c.args.out.now) (contents c.put_in_place.new.out) (contents c.put_new_after.new.out) c.args.at c.in_ok-end.end end w.text
          (new_after changes.given.items all c.rank-rank.result) w.puts puts;
      told = w.told;
    })
