use Rattle.std.proofs.Common.{cond, Some, None, ap, ◌∙◌}
use Rattle.std.specs.Option.{option_or}
use Rattle.walrus_ir.specs.Types.{same_types}
use Rattle.walrus_ir.specs.TypeIndex.{at_list, by_list}
use Rattle.walrus_ir.proofs.TypeIndex.{at_list-insert, at_lists-first}
use Rattle.walrus_ir.proofs.type_index.FuncIds.add_first.Goals as goal

pub returns-clause-ok : goal.returns-clause-ok
returns-clause-ok c =
    at_lists-first c.args.self.now _ c.args.params.now c.args.results.now c.add.new.self c.args.id
    (λ other.
    ap (λ es. at_list (by_list es) other) c.in_ok-insert.ensures.entries
    ∙ (at_list-insert _ c.law_type_order.ensures.order c.in_ok-params.params c.add.new.self c.self.inside.ids.entries other
    ∙ (λ i. cond (same_types (c.in_ok-params.ensures.items i) other) (Some c.add.new.self) (at_list (c.self.view_is i) other))))
    (λ other.
    c.in_ok-add.ensures.ok other
    ∙ ap (λ m. option_or (at_list m other) (cond (same_types c.args.results.now other) (Some c.args.id) None)) c.new-by_results.ensures)
