-- The definitions for values of the code.
use Rattle.dwarf_line.specs.declared.header.Header.{Header}
use Rattle.dwarf_line.specs.declared.table.Table.{Table}
use Rattle.dwarf_line.specs.LineProgram.{Parameters}
use Rattle.dwarf_line.specs.LineTables.{LineTable}

abbrev pub parameters : Header → Parameters
parameters h = record {
  default_is_stmt = h.default_is_stmt;
  line_base = h.line_base;
  line_range = h.line_range;
  opcode_base = h.opcode_base;
  operand_counts = h.operand_counts.now;
}

abbrev pub line_table : Table → LineTable
line_table t = record { format = t.format; front = t.front.now; parameters = parameters t.header; program = t.program.now }
