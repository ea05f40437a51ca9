use Rattle.std.proofs.Common.{ℕ, List, sym, ap, subst}
use Rattle.wasm_module.specs.declared.parsed.ParsedModule.{ParsedModule}
use Rattle.wasm_sections.specs.Sections.{IsModule}
use Rattle.module_tools.proofs.counting.add_counter.Goals as goal

pub returns-in-Ok-export_global-clause-adds : goal.returns-in-Ok-export_global-clause-adds
returns-in-Ok-export_global-clause-adds c = λ all m.
    let bytes = ap (λ (p : ParsedModule). p.bytes.now) c.add_global.ensures.kept.kept in
    (c.add_global.new.changes, c.in-Ok.ensures.ok all m, c.in-Ok-export_global.ensures.ok all (subst (λ (b : List ℕ). IsModule b all) (sym bytes) m))
