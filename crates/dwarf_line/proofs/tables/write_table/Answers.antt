use Rattle.std.proofs.Common.{rules}
use Rattle.dwarf_line.proofs.TableLemmas.{adds_unit}
use Rattle.dwarf_line.proofs.tables.write_table.Goals as goal

pub returns-clause-adds : goal.returns-clause-adds
returns-clause-adds c =
    adds_unit c.args.format _ c.args.front.now c.args.program.now _ _ _ _ (search rules) c.in_ok-write_length.ensures.adds c.in_ok-extend_from_slice.ensures.items c.in_ok-extend_from_slice-2.ensures.items
