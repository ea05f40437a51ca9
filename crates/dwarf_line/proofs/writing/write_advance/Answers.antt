use Rattle.std.proofs.Common.{arith}
use Rattle.std.proofs.lemmas.Grind.{common_steps}
use Rattle.dwarf_line.specs.Views.{parameters}
use Rattle.dwarf_line.proofs.WrittenLemmas.{adds_widest, adds_advance}
use Rattle.dwarf_line.proofs.writing.write_advance.Goals as goal

pub returns-then-distance-widest_advance : goal.returns-then-distance-widest_advance
returns-then-distance-widest_advance c =
    adds_widest (parameters c.args.header.now) c.args.distance _ _ (omega (arith, c.args.header.now.based)) (cc) c.in_ok-push.ensures.items

pub returns : goal.returns
returns c =
    adds_advance (parameters c.args.header.now) c.args.distance _ _ (omega (arith, c.args.header.now.based)) (omega arith) (grind (arith, common_steps))
