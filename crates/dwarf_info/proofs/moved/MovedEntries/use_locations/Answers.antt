use Rattle.std.proofs.Common.{List, ap}
use Rattle.dwarf_info.specs.declared.moved.ListUse.{ListUse}
use Rattle.dwarf_info.specs.EntryViews.{entries_moved}
use Rattle.dwarf_info.proofs.moved.MovedEntries.use_locations.Goals as goal

pub returns-clause-used : goal.returns-clause-used
returns-clause-used c = ap (λ (ls : List ListUse). record (entries_moved c.args.self.now) { locations = ls }) c.in_ok-push.ensures.items
