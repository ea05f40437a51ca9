use Rattle.std.proofs.Common.{◌+◌, arith}
use Rattle.std.proofs.lemmas.Grind.{common_steps}
use Rattle.dwarf_line.specs.Views.{parameters}
use Rattle.dwarf_line.proofs.SpecialLemmas.{is_special}
use Rattle.dwarf_line.proofs.WrittenLemmas.{adds_special_alone, adds_special_after_widest, adds_special_after_advance}
use Rattle.dwarf_line.proofs.writing.write_special.Goals as goal

pub returns-in-Some : goal.returns-in-Some
returns-in-Some c =
    adds_special_alone (parameters c.args.header.now) c.args.line c.args.distance c.in-Some.opcode _ _ (omega (arith, c.args.header.now.based)) c.in-Some.ensures.some c.in_ok-push.ensures.items

pub returns-in-Some-special_opcode : goal.returns-in-Some-special_opcode
returns-in-Some-special_opcode c =
    adds_special_after_widest (parameters c.args.header.now) c.args.line c.args.distance c.in-Some-special_opcode.opcode _ _ (omega (arith, c.args.header.now.based)) (omega arith)
    (rw (← c.widest_advance-widest.ensures) c.in-Some-special_opcode.ensures.some) c.in_ok-extend_from_slice.ensures.items

pub returns : goal.returns
returns c =
    let p = parameters c.args.header.now in
    let opcode = c.args.header.now.opcode_base + c.args.line in
    adds_special_after_advance p c.args.line c.args.distance opcode _ _ (omega (arith, c.args.header.now.based)) (omega arith)
    (is_special p c.args.line 0 opcode c.requires.least (omega arith)) (grind (arith, common_steps))
