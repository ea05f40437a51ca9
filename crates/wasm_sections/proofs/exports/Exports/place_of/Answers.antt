use Rattle.std.proofs.Common.{Option, Some, Result, refl, ap, subst, ◌∙◌}
use Rattle.std.proofs.lemmas.Bool.Decides.{Decides-eqb}
use Rattle.std.proofs.lemmas.Slice.Eq.{slice_eq-Decides}
use Rattle.wasm_sections.specs.declared.exports.Export.{Export}
use Rattle.wasm_sections.specs.declared.fault.ModuleError.{ModuleError}
use Rattle.wasm_sections.specs.Views.{TakesExport}
use Rattle.wasm_sections.proofs.ExportNameLemmas.{one_named, one_other}
use Rattle.wasm_sections.proofs.exports.Exports.place_of.Goals as goal

pub returns-then-eq-clause-found : goal.returns-then-eq-clause-found
returns-then-eq-clause-found c =
    let at = c.exports.export-iterator in
    let next = c.next.new.self in
    let export = c.in-Ok.export in
    let takes = subst (λ (o : Option (Result Export ModuleError)). TakesExport at o next) (c.in-Some.is ∙ ap (λ (r : _). Some r) c.in-Ok.is) c.next.ensures.steps in
    let same = slice_eq-Decides Decides-eqb export.name.now c.args.name.now c.eq.result c.eq.ensures in
    (λ u. one_named c.args.name.now c.args.self.items at.items next.items export c.exports.invariant takes (same.0 c.if-eq.true), λ h. refl)

pub exports-preserved : goal.exports-preserved
exports-preserved c =
    let at = c.exports.export-iterator in
    let next = c.next.new.self in
    let export = c.in-Ok.export in
    let takes = subst (λ (o : Option (Result Export ModuleError)). TakesExport at o next) (c.in-Some.is ∙ ap (λ (r : _). Some r) c.in-Ok.is) c.next.ensures.steps in
    let same = slice_eq-Decides Decides-eqb export.name.now c.args.name.now c.eq.result c.eq.ensures in
    one_other c.args.name.now c.args.self.items at.items next.items export c.exports.invariant takes (λ e. let yes = same.1 e in let no = c.if-eq.false in absurd cc)
