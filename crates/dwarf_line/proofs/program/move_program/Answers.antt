use Rattle.std.proofs.Common.{inr, arith}
use Rattle.std.proofs.lemmas.Result.{err_from_is_err_and}
use Rattle.dwarf_line.specs.Views.{parameters}
use Rattle.dwarf_line.proofs.RepeatedLemmas.{nothing_left, something_left}
use Rattle.dwarf_line.proofs.ProgramLemmas.{no_sequence, one_more_sequence, sequence_shorter, program_written, program_fault}
use Rattle.dwarf_line.proofs.program.move_program.Goals as goal

pub sequences-init : goal.sequences-init
sequences-init c = no_sequence _ (parameters c.args.header.now) c.args.place _ _ _

pub sequences-smaller : goal.sequences-smaller
sequences-smaller c = sequence_shorter _ _ c.in_ok-sequence.sequence c.in_ok-sequence.ensures.sequence

pub sequences-preserved : goal.sequences-preserved
sequences-preserved c =
    one_more_sequence _ (parameters c.args.header.now) c.args.place _ _ c.in_ok-sequence.sequence _ _ _ _ _ _ c.in_ok-moved.moved c.sequences.invariant c.in_ok-sequence.ensures.sequence c.in_ok-move_sequence.ensures.adds
    c.in_ok-moved.ensures.old (omega (arith, c.in_ok-moved.ensures.new)) c.in_ok-push.ensures.items

pub returns-clause-adds : goal.returns-clause-adds
returns-clause-adds c = program_written _ (parameters c.args.header.now) c.args.place _ _ _ _ _ _ c.sequences.invariant (nothing_left c.sequences.rest.now c.sequences-test.ensures)

pub returns-in_err-sequence-clause-errors : goal.returns-in_err-sequence-clause-errors
returns-in_err-sequence-clause-errors c =
    let p = err_from_is_err_and c.from_residual.result c.from_residual.ensures.1 in
    rw (p.1, p.2) (inr (program_fault _ _ _ _ _ _ _ _ _ _ c.sequences.invariant (something_left c.sequences.rest.now c.sequences-test.ensures) c.in_err-sequence.ensures.fault))
