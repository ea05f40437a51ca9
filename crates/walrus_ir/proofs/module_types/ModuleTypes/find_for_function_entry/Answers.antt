use Rattle.std.proofs.Common.{◌≡◌, Some, true, map, sym, ap, ◌∙◌}
use Rattle.std.specs.Prelude.{slice_get}
use Rattle.walrus_ir.specs.Types.{is_entry, find_entry}
use Rattle.walrus_ir.specs.TypeDigest.{entry_digest}
use Rattle.walrus_ir.specs.TypeEntries.{module_type}
use Rattle.walrus_ir.specs.TypeIndex.{at_digest, at_list, passes}
use Rattle.walrus_ir.proofs.TypeIndex.{found_first}
use Rattle.walrus_ir.proofs.module_types.ModuleTypes.find_for_function_entry.Goals as goal

pub returns-in-true : goal.returns-in-true
returns-in-true c =
    let index = c.self.inside.index in
    let types = map module_type c.self.inside.types.items in
    let results = c.args.results.now in
    let there : at_digest index.firsts (entry_digest results) ≡ Some c.in-Some.id = sym (c.get.ensures ∙ ap (at_digest index.firsts) c.entry_digest.ensures) ∙ c.in-Some.is in
    let here : passes (is_entry results) (slice_get types c.in-Some.id) ≡ true =
    ap (λ ts. passes (is_entry results) (slice_get ts c.in-Some.id)) c.self.view_is ∙ (sym c.is_entry_of.ensures ∙ c.in-true.is) in
    found_first (is_entry results) types (at_digest index.firsts (entry_digest results)) (at_list index.entry_ids results) _ c.in-Some.id there here (c.self.invariant.0.entries_are results)
    ∙ ap (λ ts. find_entry ts results) c.self.view_is
