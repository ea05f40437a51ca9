use Rattle.std.proofs.Common.{ℕ, List, ◌++◌, length, Some, sym, ap, ◌∙◌}
use Rattle.wasm_sections.specs.declared.sections.Sections.{Sections}
use Rattle.wasm_sections.specs.Sections.{preamble}
use Rattle.wasm_sections.proofs.ViewLemmas.{each_at_first, each_passed, each_of_all}
use Rattle.wasm_module.specs.WrittenModules.{IsLinked}
use Rattle.wasm_module.proofs.custom.Followers.read.Goals as goal

pub sections-init : goal.sections-init
sections-init c = λ all m.
    let same = c.into_iter-section-iterator.ensures.into_iter_gives in
    let first = c.into_iter-section-iterator.result in
    each_at_first IsLinked c.args.parsed.now.bytes.now all first m
    (sym c.bytes.ensures ∙ c.in_ok-section-items.ensures.rest ∙ ap (λ (s : Sections). preamble ++ s.left.rest.now) (sym same))
    (ap (λ (s : Sections). s.left.end) same ∙ c.in_ok-section-items.ensures.end ∙ ap (λ (l : List ℕ). length l) c.bytes.ensures)

pub sections-preserved : goal.sections-preserved
sections-preserved c = λ all m.
    each_passed IsLinked all c.sections.section-iterator c.next.new.self c.next.result c.in_ok-section.section (c.sections.invariant all m)
    (c.in-Some.is ∙ ap (λ (r : _). Some r) c.in_ok-section.was) c.next.ensures.steps c.in_ok-refuse_object.ensures

pub returns : goal.returns
returns c = λ all m.
    each_of_all IsLinked all c.sections.section-iterator c.next.new.self c.next.result (c.sections.invariant all m) c.in-None.is c.next.ensures.steps
