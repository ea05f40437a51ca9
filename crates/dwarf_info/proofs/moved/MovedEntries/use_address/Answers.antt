use Rattle.dwarf_bytes.specs.Uses.{told, lengthened}
use Rattle.dwarf_info.specs.EntryViews.{entries_moved}
use Rattle.dwarf_info.proofs.Taking.{told_pushed}
use Rattle.dwarf_info.proofs.moved.MovedEntries.use_address.Goals as goal

pub returns-clause-told : goal.returns-clause-told
returns-clause-told c =
    told_pushed c.push.result (entries_moved c.args.self.now) c.args.address c.args.new (told c.push.new.self) (lengthened c.push.new.self) c.push.ensures.ok c.push.ensures.tables
