use Rattle.std.proofs.Common.{◌∙◌}
use Rattle.walrus_machine.proofs.Tables.{has_any}
use Rattle.walrus_machine.proofs.machine.table.has_tag.Goals as goal

pub returns : goal.returns
returns c = c.contains.ensures ∙ has_any _ c.law_ids.ensures.order c.args.tags.now.keys c.args.tag
