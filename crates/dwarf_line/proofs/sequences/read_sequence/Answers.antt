use Rattle.std.proofs.Common.{Some, refl, ap, sym, ◌+◌, ◌%◌, ◌^◌, ◌∙◌, arith}
use Rattle.std.specs.Option.{option_or}
use Rattle.std.proofs.lemmas.Result.{err_from_is_err_and}
use Rattle.dwarf_line.specs.Views.{parameters}
use Rattle.dwarf_line.specs.declared.operation.Operation.TheVariants.{Advance, SetAddress, Special, AppendRow, Changes}
use Rattle.dwarf_line.proofs.SequenceLemmas.{nothing_read, read_more, read_shorter, begins_sequence, or_none, sequence_fault}
use Rattle.dwarf_line.proofs.sequences.read_sequence.Goals as goal

pub operations-init : goal.operations-init
operations-init c = nothing_read (parameters c.args.header.now) c.args.bytes.now

pub overflow_sub-bytes : goal.overflow_sub-bytes
overflow_sub-bytes c = omega (arith, read_shorter _ _ _ _ _ c.operations.invariant, c.in_ok-operation.ensures.shorter)

pub returns-in-EndSequence-clause-sequence : goal.returns-in-EndSequence-clause-sequence
returns-in-EndSequence-clause-sequence c =
    let read = rw c.in-EndSequence.is at c.in_ok-operation.ensures.gives in
    begins_sequence _ _ _ _ _ _ c.operations.invariant read _ c.split_at.ensures.front refl c.unwrap_or.ensures

pub operations-preserved-in-Advance : goal.operations-preserved-in-Advance
operations-preserved-in-Advance c =
    let read = rw c.in-Advance.is at c.in_ok-operation.ensures.gives in
    read_more _ _ _ _ _ _ (Advance c.in-Advance.distance) c.operations.invariant read _ _ (λ x. tt) (λ x. refl) (λ x. or_none c.operations.first)

pub operations-preserved-in-SetAddress : goal.operations-preserved-in-SetAddress
operations-preserved-in-SetAddress c =
    let read = rw c.in-SetAddress.is at c.in_ok-operation.ensures.gives in
    read_more _ _ _ _ _ _ (SetAddress _ c.in-SetAddress.new) c.operations.invariant read _ _ (λ x. tt) (λ x. refl) (λ x. or_none c.operations.first)

pub operations-preserved-in-Special : goal.operations-preserved-in-Special
operations-preserved-in-Special c =
    let read = rw c.in-Special.is at c.in_ok-operation.ensures.gives in
    let reached = ap (λ n. (c.operations.address + n) % 2 ^ 64) (sym c.address_advance-address.ensures) in
    read_more _ _ _ _ _ _ (Special c.in-Special.opcode) c.operations.invariant read _ _ (λ x. (refl, tt)) (λ x. reached)
    (λ x. ap (λ n. option_or c.operations.first (Some n)) reached ∙ sym c.or-first.ensures)

pub operations-preserved-in-AppendRow : goal.operations-preserved-in-AppendRow
operations-preserved-in-AppendRow c =
    let read = rw c.in-AppendRow.is at c.in_ok-operation.ensures.gives in
    read_more _ _ _ _ _ _ AppendRow c.operations.invariant read _ _ (λ x. (refl, tt)) (λ x. refl) (λ x. sym c.or-first-in-AppendRow.ensures)

pub operations-preserved : goal.operations-preserved
operations-preserved c =
    let read = rw c.in-Changes.is at c.in_ok-operation.ensures.gives in
    read_more _ _ _ _ _ _ (Changes c.in-Changes.field-0) c.operations.invariant read _ _ (λ x. tt) (λ x. refl) (λ x. or_none c.operations.first)

pub returns-in_err-operation-clause-fault : goal.returns-in_err-operation-clause-fault
returns-in_err-operation-clause-fault c =
    let p = err_from_is_err_and c.from_residual.result c.from_residual.ensures.1 in
    rw (p.1, p.2) (sequence_fault _ _ _ _ _ _ c.operations.invariant c.in_err-operation.ensures.gives)
