use Rattle.std.proofs.Common.{refl}
use Rattle.dwarf_line.specs.Views.{parameters}
use Rattle.dwarf_line.proofs.SpecialLemmas.{is_special}
use Rattle.dwarf_line.proofs.writing.special_opcode.Goals as goal

pub returns-then-opcode-lt256-clause-some : goal.returns-then-opcode-lt256-clause-some
returns-then-opcode-lt256-clause-some c = is_special (parameters c.args.header.now) c.args.line c.args.distance _ c.requires refl
