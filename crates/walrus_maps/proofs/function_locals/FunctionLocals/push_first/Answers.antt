use Rattle.std.proofs.Common.{ap, ◌∙◌, [], ◌∷◌, ◌++◌}
use Rattle.std.specs.FinMap as map
use Rattle.walrus_maps.proofs.EntryMaps.{one_put}
use Rattle.walrus_maps.proofs.function_locals.FunctionLocals.push_first.Goals as goal

pub returns-clause-ok : goal.returns-clause-ok
returns-clause-ok c =
    one_put c.self.inside.lists.entries c.insert.new.self.entries c.args.function c.push.new.self c.in_ok-insert.ensures.updates.0
    ∙ (λ i. map.insert (c.self.view_is i) c.args.function ((c.in_ok-index.ensures.ok ∙ ap (λ locals. locals ++ c.args.local ∷ []) c.new-list.ensures) i))
