use Rattle.walrus_parser.proofs.Roles.{makes_instruction}
use Rattle.walrus_flat.proofs.WriterOperators.{at_block, at_loop, at_if, at_try, at_try_table, at_else, at_catch, at_catch_all, at_delegate, at_end, at_other, at_nop}
use Rattle.walrus_flat.proofs.writer.Writer.step.Goals as goal

pub returns-in-Nop : goal.returns-in-Nop
returns-in-Nop c = at_nop c.args.self.now c.args.operator.now c.args.location c.in-Nop.is

pub returns-in-Block : goal.returns-in-Block
returns-in-Block c = at_block c.args.self.now c.begin.new.self c.args.operator.now c.args.location c.begin.result _ c.in-Block.is c.begin.ensures

pub returns-in-Loop : goal.returns-in-Loop
returns-in-Loop c = at_loop c.args.self.now c.begin-in-Loop.new.self c.args.operator.now c.args.location c.begin-in-Loop.result _ c.in-Loop.is c.begin-in-Loop.ensures

pub returns-in-Try : goal.returns-in-Try
returns-in-Try c = at_try c.args.self.now c.begin-in-Try.new.self c.args.operator.now c.args.location c.begin-in-Try.result _ c.in-Try.is c.begin-in-Try.ensures

pub returns-in-TryTable : goal.returns-in-TryTable
returns-in-TryTable c = at_try_table c.args.self.now c.begin-in-TryTable.new.self c.args.operator.now c.args.location c.begin-in-TryTable.result _ _ c.in-TryTable.is c.begin-in-TryTable.ensures

pub returns-in-If : goal.returns-in-If
returns-in-If c = at_if c.args.self.now c.begin-in-If.new.self c.args.operator.now c.args.location c.begin-in-If.result _ c.in-If.is c.begin-in-If.ensures

pub returns-in-Else : goal.returns-in-Else
returns-in-Else c = at_else c.args.self.now c.part_if.new.self c.args.operator.now c.args.location c.part_if.result c.in-Else.is c.part_if.ensures.ok c.part_if.ensures.err

pub returns-in-Catch : goal.returns-in-Catch
returns-in-Catch c = at_catch c.args.self.now c.begin_clause.new.self c.args.operator.now c.args.location c.begin_clause.result _ c.in-Catch.is c.begin_clause.ensures

pub returns-in-CatchAll : goal.returns-in-CatchAll
returns-in-CatchAll c = at_catch_all c.args.self.now c.begin_clause-in-CatchAll.new.self c.args.operator.now c.args.location c.begin_clause-in-CatchAll.result c.in-CatchAll.is c.begin_clause-in-CatchAll.ensures

pub returns-in-Delegate : goal.returns-in-Delegate
returns-in-Delegate c = at_delegate c.args.self.now c.close_try.new.self c.args.operator.now c.args.location c.close_try.result _ c.in-Delegate.is c.close_try.ensures

pub returns-in-End : goal.returns-in-End
returns-in-End c = at_end c.args.self.now c.close.new.self c.args.operator.now c.args.location c.close.result c.in-End.is c.close.ensures.ok c.close.ensures.err

pub returns-in_default : goal.returns-in_default
returns-in_default c =
    let other = c.in_default in
    at_other c.args.self.now c.write_plain.new.self c.args.operator.now c.args.location c.write_plain.result
    (makes_instruction c.args.operator.now other.not-Nop other.not-Block other.not-Loop other.not-If other.not-Else other.not-Try other.not-Catch other.not-CatchAll other.not-Delegate other.not-TryTable other.not-End)
    c.write_plain.ensures
