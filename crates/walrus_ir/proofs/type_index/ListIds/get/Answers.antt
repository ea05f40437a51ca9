use Rattle.std.proofs.Common.{ap, ◌∙◌}
use Rattle.walrus_ir.specs.TypeIndex.{at_list}
use Rattle.walrus_ir.proofs.TypeIndex.{lookup-at_list}
use Rattle.walrus_ir.proofs.type_index.ListIds.get.Goals as goal

pub returns : goal.returns
returns c =
    c.copied.ensures
    ∙ (c.get.ensures.value
    ∙ (lookup-at_list _ c.law_type_order.ensures.order c.args.list.now c.self.inside.ids.entries
    ∙ ap (λ m. at_list m c.args.list.now) c.self.view_is))
