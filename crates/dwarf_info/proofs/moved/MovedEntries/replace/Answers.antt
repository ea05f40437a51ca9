use Rattle.dwarf_bytes.specs.Patches.{changes}
use Rattle.dwarf_info.specs.EntryViews.{entries_moved}
use Rattle.dwarf_info.specs.Views.{value_spelled}
use Rattle.dwarf_info.proofs.Taking.{not_replaced, replaced_pushed}
use Rattle.dwarf_info.proofs.moved.MovedEntries.replace.Goals as goal

pub returns-clause-replaced : goal.returns-clause-replaced
returns-clause-replaced c =
    replaced_pushed c.push.result (entries_moved c.args.self.now) (value_spelled c.args.value.now) c.args.self.now.scratch.items c.deref.result.now (changes c.push.new.self)
    c.deref.ensures.value c.push.ensures.pushed c.push.ensures.after

pub returns-clause-refused : goal.returns-clause-refused
returns-clause-refused c = not_replaced c.push.result (value_spelled c.args.value.now) (entries_moved c.args.self.now) c.push.ensures.refused
