use Rattle.std.proofs.Common.{arith}
use Rattle.std.proofs.lemmas.Grind.{common_steps}
use Rattle.dwarf_line.proofs.WrittenLemmas.{adds_set_address}
use Rattle.dwarf_line.proofs.writing.write_set_address.Goals as goal

pub returns-clause-adds : goal.returns-clause-adds
returns-clause-adds c = λ p. adds_set_address p c.args.size c.args.address _ _ (grind (arith, common_steps)) (grind (arith, common_steps))
