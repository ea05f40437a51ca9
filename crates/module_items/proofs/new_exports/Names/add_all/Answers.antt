use Rattle.std.proofs.Common.{◌≡◌, true, Option, Result, Some, sym, ap, subst, ◌∙◌}
use Rattle.std.specs.BTreeSet.{contains_text}
use Rattle.wasm_sections.specs.declared.exports.Export.{Export}
use Rattle.wasm_sections.specs.declared.exports.Exports.{Exports}
use Rattle.wasm_sections.specs.declared.fault.ModuleError.{ModuleError}
use Rattle.wasm_sections.specs.Views.{TakesExport}
use Rattle.module_items.proofs.NewExportLemmas.{KnowsName, none_known, known_step}
use Rattle.module_items.proofs.new_exports.Names.add_all.Goals as goal

pub exports-init : goal.exports-init
exports-init c =
    let same = ap (λ (e : Exports). e.items) c.into_iter-export-iterator.ensures.into_iter_gives in
    λ name. subst (KnowsName (contains_text c.args.self.now.names name ≡ true) name c.args.items) (sym same)
    (none_known name c.args.items (contains_text c.args.self.now.names name) (c.requires name))

pub exports-preserved : goal.exports-preserved
exports-preserved c =
    let at = c.exports.export-iterator in
    let next = c.next.new.self in
    let takes = subst (λ (o : Option (Result Export ModuleError)). TakesExport at o next) (c.in-Some.is ∙ ap (λ (r : _). Some r) c.in-Ok.is) c.next.ensures.steps in
    λ name. known_step name c.args.items at.items next.items c.in-Ok.export (contains_text c.exports.self.names name)
    (contains_text c.add.new.self.names name) (c.in-Ok-add.ensures.added name) takes (c.exports.invariant name)
