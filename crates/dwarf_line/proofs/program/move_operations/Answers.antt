use Rattle.dwarf_line.specs.Views.{parameters}
use Rattle.dwarf_bytes.specs.declared.fault.DebugFault.TheVariants.{Truncated}
use Rattle.dwarf_line.proofs.Local.{operation_some}
use Rattle.dwarf_line.proofs.RepeatedLemmas.{nothing_left, something_left, goes_on}
use Rattle.dwarf_line.proofs.MovedLemmas.{nothing_written, written_more, all_written}
use Rattle.dwarf_line.proofs.program.move_operations.Goals as goal

pub operations-init : goal.operations-init
operations-init c = rw c.start-place.ensures (nothing_written _ (parameters c.args.header.now) _ _)

pub operations-preserved : goal.operations-preserved
operations-preserved c =
    written_more _ (parameters c.args.header.now) _ _ _ _ _ _ _ _ _ c.in_ok-operation.operation c.operations.invariant c.in_ok-operation.ensures.gives c.split_at.ensures.front
    c.in_ok-place.ensures.follows c.in_ok-place.ensures.ended

pub returns-clause-adds : goal.returns-clause-adds
returns-clause-adds c = λ os reads ended.
    all_written _ (parameters c.args.header.now) _ _ _ _ _ os c.operations.invariant (nothing_left c.operations.rest.now c.operations-test.ensures) reads ended

-- the operations were read before
pub returns-in_err-operation-clause-errors : goal.returns-in_err-operation-clause-errors
returns-in_err-operation-clause-errors c = λ os reads.
    absurd (goes_on _ Truncated _ c.operations.invariant.done os _ _ (operation_some (parameters c.args.header.now)) c.operations.invariant.reads reads
    (something_left c.operations.rest.now c.operations-test.ensures) c.in_err-operation.ensures.gives)
