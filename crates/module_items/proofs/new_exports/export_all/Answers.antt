use Rattle.std.proofs.Common.{sym, ◌∙◌}
use Rattle.module_items.specs.Replacing.{placed_contents}
use Rattle.module_items.proofs.NewExportLemmas.{follow, some_follow}
use Rattle.module_items.proofs.new_exports.export_all.Goals as goal

pub returns-in-Ok-give-clause-ok : goal.returns-in-Ok-give-clause-ok
returns-in-Ok-give-clause-ok c = λ all is.
    let exports = c.args.exports.now in
    let contents = placed_contents all c.args.changes.now 7 in
    let old = c.args.changes.now in
    let new = c.give.new.changes in
    some_follow exports contents old new (sym c.is_empty.ensures ∙ c.if-is_empty.false)
    (follow exports _ contents old new c.in-Ok-made.made.items (c.in-Ok.ensures.are all is) c.in-Ok-made.ensures.free c.in-Ok-made.ensures.written
    c.in-Ok-give.ensures.sets)
