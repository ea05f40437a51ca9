use Rattle.std.proofs.Common.{inl, inr, refl}
use Rattle.dwarf_bytes.specs.declared.fault.DebugFault.TheVariants.{BadOffset}
use Rattle.dwarf_info.specs.EntryViews.{entries_moved}
use Rattle.dwarf_info.specs.Views.{value_spelled}
use Rattle.dwarf_info.proofs.Taking.{on_ok, other_fault, table_set, table_not_set}
use Rattle.dwarf_info.proofs.moved.MovedEntries.set_line_table.Goals as goal

pub returns-in-Some-clause-set : goal.returns-in-Some-clause-set
returns-in-Some-clause-set c =
    on_ok _ _ _
    (λ h. table_set c.args.encoding c.args.layout (value_spelled c.args.value.now) (entries_moved c.args.self.now) c.in-Some.table.now c.in-Some.ensures (entries_moved c.set_number.new.self) h)
    c.set_number.ensures.set

pub returns-in-Some-clause-refused : goal.returns-in-Some-clause-refused
returns-in-Some-clause-refused c =
    other_fault _ _ _
    (λ fault h. table_not_set c.args.encoding c.args.layout (value_spelled c.args.value.now) (entries_moved c.args.self.now) c.in-Some.table.now c.in-Some.ensures fault h)
    c.set_number.ensures.refused

pub returns-in-None-clause-refused : goal.returns-in-None-clause-refused
returns-in-None-clause-refused c = inr (BadOffset, refl, inl (refl, c.in-None.ensures))
