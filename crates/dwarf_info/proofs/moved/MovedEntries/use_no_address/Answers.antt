use Rattle.std.proofs.Common.{refl}
use Rattle.dwarf_bytes.specs.Uses.{lengthened}
use Rattle.dwarf_info.specs.EntryViews.{entries_moved}
use Rattle.dwarf_info.proofs.Taking.{with_told}
use Rattle.dwarf_info.proofs.moved.MovedEntries.use_no_address.Goals as goal

pub returns-clause-others : goal.returns-clause-others
returns-clause-others c =
    let longer = lengthened c.push_none.new.self in
    with_told (entries_moved c.args.self.now) _ _ longer longer c.push_none.ensures.told refl
