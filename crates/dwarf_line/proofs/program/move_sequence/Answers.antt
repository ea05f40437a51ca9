use Rattle.std.proofs.Common.{◌∙◌, sym, ap, is_some}
use Rattle.dwarf_line.specs.Views.{parameters}
use Rattle.dwarf_line.proofs.MovedLemmas.{adds_dead}
use Rattle.dwarf_line.proofs.program.move_sequence.Goals as goal

pub returns-clause-adds : goal.returns-clause-adds
returns-clause-adds c = λ os reads is.
    let dead = ap is_some (sym c.address.ensures) ∙ sym c.is_some.ensures ∙ c.if-is_some.false in
    adds_dead _ (parameters c.args.header.now) os _ _ _ _ is dead reads c.in_ok-extend_from_slice.ensures.items
