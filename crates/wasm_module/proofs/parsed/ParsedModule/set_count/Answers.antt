use Rattle.std.proofs.Common.{ℕ, List, subst}
use Rattle.wasm_sections.specs.Additions.{SetsContents}
use Rattle.wasm_sections.proofs.AdditionLemmas.{from_empty}
use Rattle.wasm_module.proofs.parsed.ParsedModule.set_count.Goals as goal

pub returns-in-Ok-set_contents : goal.returns-in-Ok-set_contents
returns-in-Ok-set_contents c =
    subst (λ (l : List ℕ). SetsContents c.args.changes.now c.set_contents.new.self 12 l)
    (from_empty _ _ _ c.new-contents.ensures.items c.in-Ok.ensures.written) c.in-Ok-set_contents.ensures.sets
