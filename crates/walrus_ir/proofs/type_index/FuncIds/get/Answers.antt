use Rattle.std.proofs.Common.{◌≡◌, ℕ, Some, None, sym, ap, ◌∙◌}
use Rattle.std.specs.Prelude.{option_and_then}
use Rattle.std.specs.Option.{option_copied}
use Rattle.walrus_ir.specs.TypeIndex.{ByList, at_list}
use Rattle.walrus_ir.proofs.TypeIndex.{lookup-at_list}
use Rattle.walrus_ir.proofs.type_index.FuncIds.get.Goals as goal

pub returns-in-Some : goal.returns-in-Some
returns-in-Some c =
    let found : at_list c.args.self.now c.args.params.now ≡ Some c.in-Some.by_results.now =
    sym (ap option_copied (sym c.in-Some.is) ∙ (c.get.ensures.value
    ∙ (lookup-at_list _ c.law_type_order.ensures.order c.args.params.now c.self.inside.ids.entries
    ∙ ap (λ (m : ByList (ByList ℕ)). at_list m c.args.params.now) c.self.view_is))) in
    c.get-in-Some.ensures ∙ ap (option_and_then (λ (m : ByList ℕ). at_list m c.args.results.now)) (sym found)

pub returns-in-None : goal.returns-in-None
returns-in-None c =
    let found : at_list c.args.self.now c.args.params.now ≡ None =
    sym (ap option_copied (sym c.in-None.is) ∙ (c.get.ensures.value
    ∙ (lookup-at_list _ c.law_type_order.ensures.order c.args.params.now c.self.inside.ids.entries
    ∙ ap (λ (m : ByList (ByList ℕ)). at_list m c.args.params.now) c.self.view_is))) in
    ap (option_and_then (λ (m : ByList ℕ). at_list m c.args.results.now)) (sym found)
