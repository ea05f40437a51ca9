use Rattle.std.proofs.Common.{ℕ, List, subst}
use Rattle.wasm_sections.specs.Additions.{AddsAfter}
use Rattle.wasm_sections.specs.Sections.{section_id}
use Rattle.wasm_module.proofs.parsed.ParsedModule.add_item.Goals as goal

pub returns-in-Ok-clause-ok : goal.returns-in-Ok-clause-ok
returns-in-Ok-clause-ok c = λ all m.
    let a =
    subst (λ (l : List ℕ). AddsAfter c.args.changes.now c.add_after.new.self (section_id c.args.kind) l c.args.item.now) (c.in_ok-contents.ensures.are all m) c.in-Ok.ensures.ok in
    record { contents = a.contents; has_one_more = a.has_one_more; sets = a.sets }
