use Rattle.std.proofs.Common.{◌≡◌, ℕ, cond, Some, None, sym, ap, ◌∙◌}
use Rattle.std.specs.Option.{option_copied_mut}
use Rattle.std.proofs.lemmas.Map.Steps.{set_value_same}
use Rattle.std.proofs.lemmas.Result.{on_ok_weaker, on_err_weaker}
use Rattle.walrus_ir.specs.Types.{same_types}
use Rattle.walrus_ir.specs.TypeIndex.{ByList, at_list, at_lists, by_list}
use Rattle.walrus_ir.proofs.TypeIndex.{lookup-at_list, at_list-set_value, at_lists-more, at_lists-new}
use Rattle.walrus_ir.proofs.type_index.FuncIds.add.Goals as goal

pub returns-in-Some-clause-ok : goal.returns-in-Some-clause-ok
returns-in-Some-clause-ok c =
    let list = c.args.params.now in
    let es = c.self.inside.ids.entries in
    let there : at_list (by_list es) list ≡ Some c.in-Some.by_results.now =
    sym (lookup-at_list _ c.law_type_order.ensures.order list es) ∙ (sym c.get_mut.ensures.value ∙ ap option_copied_mut c.in-Some.is) in
    on_ok_weaker c.add.result
    (λ more. at_lists-more c.args.self.now _ list c.args.results.now c.in-Some.by_results.now c.add.new.self c.args.id
    (ap (λ (m : ByList (ByList ℕ)). at_list m list) (sym c.self.view_is) ∙ there)
    (λ other.
    ap (λ es. at_list (by_list es) other) (c.get_mut.follows.holds c.add.new.self).0
    ∙ (at_list-set_value _ c.law_type_order.ensures.order list es c.in-Some.by_results.now c.add.new.self there other
    ∙ ap (λ m. cond (same_types list other) (Some c.add.new.self) (at_list m other)) c.self.view_is))
    more)
    c.add.ensures.ok

pub returns-in-Some-clause-err : goal.returns-in-Some-clause-err
returns-in-Some-clause-err c =
    on_err_weaker c.add.result
    (λ same.
    ap by_list ((c.get_mut.follows.holds c.add.new.self).0
    ∙ set_value_same _ c.self.inside.ids.entries c.add.new.self (sym c.get_mut.ensures.value ∙ (ap option_copied_mut c.in-Some.is ∙ ap Some (sym same))))
    ∙ c.self.view_is)
    c.add.ensures.err

pub returns-in-None-clause-ok : goal.returns-in-None-clause-ok
returns-in-None-clause-ok c =
    let list = c.args.params.now in
    let kept = ap (λ m. by_list m.entries) c.get_mut.follows.holds-at-none ∙ c.self.view_is in
    let missing : at_list c.args.self.now list ≡ None =
    ap (λ (m : ByList (ByList ℕ)). at_list m list) (sym c.self.view_is)
    ∙ (sym (lookup-at_list _ c.law_type_order.ensures.order list c.self.inside.ids.entries) ∙ (sym c.get_mut.ensures.value ∙ ap option_copied_mut c.in-None.is)) in
    on_ok_weaker c.add_first.result
    (λ put. at_lists-new c.args.self.now c.add_first.new.self list c.args.results.now c.args.id missing
    (λ takes gives. put takes gives ∙ ap (λ m. cond (same_types list takes) (cond (same_types c.args.results.now gives) (Some c.args.id) None) (at_lists m takes gives)) kept))
    c.add_first.ensures.ok
