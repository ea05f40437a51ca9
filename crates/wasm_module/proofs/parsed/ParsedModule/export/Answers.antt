use Rattle.std.proofs.Common.{◌≡◌, ◌≢◌, Result, Ok, Err, IfErr}
use Rattle.wasm_sections.specs.declared.fault.ModuleError.{ModuleError}
use Rattle.wasm_sections.specs.declared.fault.ModuleFault.TheVariants.{ExportTaken}
use Rattle.wasm_sections.specs.Additions.{AddsItem}
use Rattle.wasm_sections.proofs.AdditionLemmas.{on_ok}
use Rattle.wasm_module.specs.AddedItems.{export_of, AddsExport, IsExported}
use Rattle.wasm_module.proofs.parsed.ParsedModule.export.Goals as goal

pub returns-in-Ok-clause-ok : goal.returns-in-Ok-clause-ok
returns-in-Ok-clause-ok c = λ all m.
    let old = c.args.changes.now in
    let new = c.add_export.new.changes in
    let name = c.args.name.now in
    let kind = c.in-Some.kind in
    on_ok c.add_export.result (AddsItem all old new 7 (export_of name kind c.args.index)) (AddsExport all old new name c.args.space c.args.index)
    (c.add_export.ensures.ok all m) (λ adds. (kind, c.in-Some.ensures, adds))

never_taken : (r : Result (Unit {0}) ModuleError) (P : Type 0) → IfErr r (λ e. e.fault ≢ ExportTaken) → IfErr r (λ e. e.fault ≡ ExportTaken → P)
never_taken (Ok u) P h = tt
never_taken (Err e) P h = λ taken. absurd (h taken)

pub returns-in-Ok-clause-taken : goal.returns-in-Ok-clause-taken
returns-in-Ok-clause-taken c = λ all m p e.
    never_taken c.add_export.result (IsExported all c.args.changes.now c.args.name.now) (c.add_export.ensures.refused all m p e)
