use Rattle.std.proofs.Common.{◌≡◌, ◌-◌}
use Rattle.dwarf_bytes.specs.Merging.{merging}
use Rattle.dwarf_bytes.proofs.MergingLemmas.{MergesLeft}
use Rattle.dwarf.specs.ListTables.{list_offsets_steps}
use Rattle.dwarf.specs.ListTablesViews.{offsets_of}
use Rattle.dwarf.proofs.list_tables.Offsets.follow_offsets.Given as goal

abbrev pub invariant-loop-number : goal.invariant-loop-number
invariant-loop-number l = record {
  left : MergesLeft (list_offsets_steps (offsets_of l.self l.fn.input.end) l.count l.fn.input.rest.now) (merging l.fn.out)
      (list_offsets_steps (offsets_of l.self l.fn.input.end) (l.count - l.number) l.input.rest.now) (merging l.out);
  same_end : l.input.end ≡ l.fn.input.end;
}
