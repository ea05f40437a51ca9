use Rattle.std.proofs.Common.{ℕ, List, sym, ap, ◌∙◌}
use Rattle.wasm_numbers.specs.Numbers.{u32}
use Rattle.wasm_module.proofs.WritingLemmas.{if_so}
use Rattle.wasm_module.proofs.parsed.ParsedModule.segment_count.Goals as goal

pub returns-in-Ok : goal.returns-in-Ok
returns-in-Ok c = λ all m.
    let same = c.new-items.ensures.rest ∙ c.in-Ok.ensures all m in
    if_so c.number.result c.number.ensures.value (λ count e. (c.number.new.self.rest.now, ap (λ (l : List ℕ). u32 l) (sym same) ∙ e))
