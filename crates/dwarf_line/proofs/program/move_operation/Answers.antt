use Rattle.std.proofs.Common.{refl}
use Rattle.dwarf_line.specs.declared.operation.Operation.TheVariants.{AppendRow, EndSequence, Changes}
use Rattle.dwarf_line.specs.Views.{parameters}
use Rattle.dwarf_line.proofs.Following.{adds_copied, follows_row, follows_end, follows_change}
use Rattle.dwarf_line.proofs.program.move_operation.Goals as goal

pub returns-in-SetAddress-clause-follows : goal.returns-in-SetAddress-clause-follows
returns-in-SetAddress-clause-follows c = rw c.in-SetAddress.is (λ spells. c.move_address.ensures.follows (parameters c.args.header.now) c.args.place spells)

pub returns-in_ok-extend_from_slice-in-AppendRow-clause-follows : goal.returns-in_ok-extend_from_slice-in-AppendRow-clause-follows
returns-in_ok-extend_from_slice-in-AppendRow-clause-follows c =
    let p = parameters c.args.header.now in
    rw c.in-AppendRow.is (λ spells. follows_row _ p c.args.place _ c.moved-new.result c.args.bytes.now _ _ _ c.in_ok-lead-in-AppendRow.ensures.leads
    (adds_copied p AppendRow c.args.bytes.now _ _ spells c.in_ok-extend_from_slice-in-AppendRow.ensures.items) c.moved-new.ensures refl refl)

pub returns-in_ok-extend_from_slice-in-EndSequence-clause-follows : goal.returns-in_ok-extend_from_slice-in-EndSequence-clause-follows
returns-in_ok-extend_from_slice-in-EndSequence-clause-follows c =
    let p = parameters c.args.header.now in
    rw (c.in-EndSequence.is, c.start.ensures) (λ spells. follows_end _ p c.args.place c.moved.result c.args.bytes.now _ _ _ c.in_ok-lead-in-EndSequence.ensures.leads
    (adds_copied p EndSequence c.args.bytes.now _ _ spells c.in_ok-extend_from_slice-in-EndSequence.ensures.items) c.moved.ensures)

pub returns-in_ok-extend_from_slice-in-Changes-clause-follows : goal.returns-in_ok-extend_from_slice-in-Changes-clause-follows
returns-in_ok-extend_from_slice-in-Changes-clause-follows c =
    let p = parameters c.args.header.now in
    rw c.in-Changes.is (λ spells. follows_change _ p c.in-Changes.field-0 c.args.place c.args.bytes.now _ _
    (adds_copied p (Changes c.in-Changes.field-0) c.args.bytes.now _ _ spells c.in_ok-extend_from_slice-in-Changes.ensures.items))
