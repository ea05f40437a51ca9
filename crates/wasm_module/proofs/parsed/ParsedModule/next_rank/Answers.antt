use Rattle.std.proofs.Common.{◌≤◌, ◌<◌, Some, ap, ◌∙◌, arith}
use Rattle.wasm_sections.specs.Sections.{rank, section_id}
use Rattle.wasm_module.proofs.NewSectionLemmas.{one_passed, one_found, none_found}
use Rattle.wasm_module.proofs.parsed.ParsedModule.next_rank.Goals as goal

pub returns-then-rank-next : goal.returns-then-rank-next
returns-then-rank-next c = λ all m.
    let section = c.in_ok-section.field-0 in
    let greater : c.args.rank < rank (section_id section.kind) = omega (arith, c.rank-next.ensures) in
    c.rank-next.ensures
    ∙ one_found all c.args.rank c.sections.section-iterator c.next.new.self c.next.result section (c.sections.invariant all m)
    (c.in-Some.is ∙ ap (λ (r : _). Some r) c.in_ok-section.was) c.next.ensures.steps greater

pub sections-preserved : goal.sections-preserved
sections-preserved c = λ all m.
    let section = c.in_ok-section.field-0 in
    let not_greater : rank (section_id section.kind) ≤ c.args.rank = omega (arith, c.rank-next.ensures) in
    one_passed all c.args.rank c.sections.section-iterator c.next.new.self c.next.result section (c.sections.invariant all m)
    (c.in-Some.is ∙ ap (λ (r : _). Some r) c.in_ok-section.was) c.next.ensures.steps not_greater

pub returns : goal.returns
returns c = λ all m.
    none_found all c.args.rank c.sections.section-iterator c.next.new.self c.next.result (c.sections.invariant all m) c.in-None.is c.next.ensures.steps
