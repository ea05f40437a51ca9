use Rattle.std.proofs.Common.{Result, sym, subst}
use Rattle.wasm_sections.specs.declared.fault.ModuleError.{ModuleError}
use Rattle.wasm_sections.specs.Parts.{GivesUnlessMemory}
use Rattle.module_context.specs.ReadContexts.{read_setting}
use Rattle.module_validator.proofs.SectionLemmas.{checks_items}
use Rattle.module_validator.proofs.sections.check_section.Goals as goal

pub returns-in_default : goal.returns-in_default
returns-in_default c =
    let k = c.args.section.now.kind in
    let s = read_setting c.args.setting.now in
    let contents = c.args.section.now.contents in
    let d = c.in_default in
    let as_items = checks_items k s contents.end contents.rest.now d.not-Custom d.not-Type d.not-Function d.not-Global d.not-Export d.not-Start d.not-DataCount d.not-Code in
    subst (λ (r : Result (Unit {0}) ModuleError). GivesUnlessMemory (λ u. tt) c.check_items.result r) (sym as_items)
    c.check_items.ensures
