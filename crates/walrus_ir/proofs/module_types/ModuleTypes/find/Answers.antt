use Rattle.std.proofs.Common.{◌≡◌, Some, true, map, sym, ap, ◌∙◌}
use Rattle.std.specs.Prelude.{slice_get}
use Rattle.walrus_ir.specs.Types.{is_function, find}
use Rattle.walrus_ir.specs.TypeDigest.{func_digest}
use Rattle.walrus_ir.specs.TypeEntries.{module_type}
use Rattle.walrus_ir.specs.TypeIndex.{at_digest, at_lists, passes}
use Rattle.walrus_ir.proofs.TypeIndex.{found_first}
use Rattle.walrus_ir.proofs.module_types.ModuleTypes.find.Goals as goal

pub returns-in-true : goal.returns-in-true
returns-in-true c =
    let index = c.self.inside.index in
    let types = map module_type c.self.inside.types.items in
    let params = c.args.params.now in
    let results = c.args.results.now in
    let there : at_digest index.firsts (func_digest params results) ≡ Some c.in-Some.id = sym (c.get.ensures ∙ ap (at_digest index.firsts) c.func_digest.ensures) ∙ c.in-Some.is in
    let here : passes (is_function params results) (slice_get types c.in-Some.id) ≡ true =
    ap (λ ts. passes (is_function params results) (slice_get ts c.in-Some.id)) c.self.view_is ∙ (sym c.is_func_of.ensures ∙ c.in-true.is) in
    found_first (is_function params results) types (at_digest index.firsts (func_digest params results)) (at_lists index.func_ids params results) _ c.in-Some.id there here (c.self.invariant.0.functions_are params results)
    ∙ ap (λ ts. find ts params results) c.self.view_is
