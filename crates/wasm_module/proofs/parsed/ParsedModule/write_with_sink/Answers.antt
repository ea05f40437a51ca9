use Rattle.std.proofs.Common.{◌≡◌, ℕ, List, ◌++◌, Some, refl, sym, ap, subst, ◌∙◌, length}
use Rattle.wasm_sections.specs.declared.sections.Sections.{Sections}
use Rattle.wasm_sections.specs.Sections.{preamble, IsModule}
use Rattle.wasm_module.proofs.ModuleLemmas.{extends_same, extends_then}
use Rattle.wasm_module.proofs.SectionLemmas.{ModuleSoFar, no_sections, one_more_section, all_sections}
use Rattle.wasm_module.proofs.parsed.ParsedModule.write_with_sink.Goals as goal

pub sections-init : goal.sections-init
sections-init g c =
    let contents = g.W.Write.contents in
    let first = c.into_iter-section-iterator.result in
    record {
      extends = extends_same c.args.self.now;
      so_far =
          no_sections (g.B.BodyWriter.writes c.args.rewritten.now.bodies) c.args.self.now g.T.MapSink.records g.T.MapSink.needs c.args.rewritten.now.changes c.args.rewritten.now.omitted first.left.end first.left.rest.now first
          (contents c.args.out.now) (contents c.put.new.out) (contents c.put_new_after.new.out) 0 c.in_ok-begin.begin c.in_ok-end.end _ c.args.sink.now refl refl refl c.in_ok-begin.ensures c.in_ok-end.ensures.written c.in_ok-end.ensures.fits;
    }

pub sections-preserved : goal.sections-preserved
sections-preserved g c =
    let contents = g.W.Write.contents in
    let first = c.into_iter-section-iterator.result in
    let at = c.sections in
    record {
      extends = extends_then c.args.self.now at.self c.put_with_new.new.self at.invariant.extends c.in_ok-end-2.ensures.extends;
      so_far =
          one_more_section (g.B.BodyWriter.writes c.args.rewritten.now.bodies) c.args.self.now g.T.MapSink.records g.T.MapSink.needs c.args.rewritten.now.changes c.args.rewritten.now.omitted first.left.end first.left.rest.now
          at.section-iterator c.next.new.self c.next.result c.in_ok-section.section (contents c.args.out.now) (contents at.out) (contents c.put_with_new.new.out) 0 at.end
          c.in_ok-end-2.end c.args.sink.now at.sink c.put_with_new.new.sink at.invariant.so_far (c.in-Some.is ∙ ap (λ (r : _). Some r) c.in_ok-section.was) c.next.ensures.steps
          (λ all m.
          c.in_ok-end-2.ensures.written c.args.self.now all at.invariant.extends (subst (λ (l : List ℕ). IsModule l all) (sym at.invariant.extends.bytes) m));
    }

pub returns-clause-written : goal.returns-clause-written
returns-clause-written g c =
    let writes = g.B.BodyWriter.writes c.args.rewritten.now.bodies in
    let records = g.T.MapSink.records in
    let needs = g.T.MapSink.needs in
    let changes = c.args.rewritten.now.changes in
    let left_out = c.args.rewritten.now.omitted in
    let old = g.W.Write.contents c.args.out.now in
    let new = g.W.Write.contents c.sections.out in
    let at = c.sections in
    let first = c.into_iter-section-iterator.result in
    let text = first.left.rest.now in
    let file = c.bytes.result.now in
    let same = c.into_iter-section-iterator.ensures.into_iter_gives in
    let parts : file ≡ preamble ++ text = c.in_ok-section-items.ensures.rest ∙ ap (λ (s : Sections). preamble ++ s.left.rest.now) (sym same) in
    let stop : first.left.end ≡ length file = ap (λ (s : Sections). s.left.end) same ∙ c.in_ok-section-items.ensures.end in
    let so_far = subst (λ (n : ℕ). ModuleSoFar writes c.args.self.now records needs changes left_out n text at.section-iterator old new 0 at.end c.args.sink.now at.sink) stop at.invariant.so_far in
    all_sections writes c.args.self.now records needs changes left_out file text at.section-iterator c.next.new.self c.next.result old new at.end c.args.sink.now at.sink c.bytes.ensures parts so_far c.in-None.is c.next.ensures.steps
