use Rattle.std.proofs.Common.{arith}
use Rattle.dwarf_line.proofs.TableLemmas.{adds_short_length, adds_long_length}
use Rattle.dwarf_line.proofs.tables.write_length.Goals as goal

pub returns-in_ok-write_fixed-in-Dwarf32-clause-adds : goal.returns-in_ok-write_fixed-in-Dwarf32-clause-adds
returns-in_ok-write_fixed-in-Dwarf32-clause-adds c =
    rw c.in-Dwarf32.is (adds_short_length c.args.length _ _ (omega arith) c.in_ok-write_fixed-in-Dwarf32.ensures.written)

pub returns-in_ok-write_fixed-in-Dwarf64-2-clause-adds : goal.returns-in_ok-write_fixed-in-Dwarf64-2-clause-adds
returns-in_ok-write_fixed-in-Dwarf64-2-clause-adds c =
    rw c.in-Dwarf64.is (adds_long_length c.args.length _ _ _ (omega arith) c.in_ok-write_fixed-in-Dwarf64.ensures.written c.in_ok-write_fixed-in-Dwarf64-2.ensures.written)
