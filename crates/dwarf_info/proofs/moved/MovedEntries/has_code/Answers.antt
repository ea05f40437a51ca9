use Rattle.dwarf_info.specs.EntryViews.{entries_moved}
use Rattle.dwarf_info.proofs.Taking.{code_kept, code_not_kept}
use Rattle.dwarf_info.proofs.moved.MovedEntries.has_code.Goals as goal

pub returns-in_ok-push-clause-noted : goal.returns-in_ok-push-clause-noted
returns-in_ok-push-clause-noted c = code_kept (entries_moved c.args.self.now) c.args.range _ c.if-self.true c.in_ok-push.ensures.items

pub returns-else-self-clause-noted : goal.returns-else-self-clause-noted
returns-else-self-clause-noted c = code_not_kept (entries_moved c.args.self.now) c.args.range c.if-self.false
