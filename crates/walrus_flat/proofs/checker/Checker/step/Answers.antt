use Rattle.std.proofs.Common.{refl}
use Rattle.walrus_parser.proofs.Roles.{makes_instruction}
use Rattle.walrus_flat.proofs.CheckerOperators.{at_block, at_loop, at_if, at_try, at_try_table, at_else, at_catch, at_catch_all, at_delegate, at_end, at_local_get, at_local_set, at_local_tee, at_other, at_nop, same_opening, same_else, same_clause, same_delegate, same_local, same_taken, same_end}
use Rattle.walrus_flat.proofs.checker.Checker.step.Goals as goal

pub returns-in-Nop : goal.returns-in-Nop
returns-in-Nop c = record { step = at_nop c.args.self.now c.requires.inside c.args.operator.now c.in-Nop.is; env = refl }

pub returns-in-Block : goal.returns-in-Block
returns-in-Block c = record {
  step = at_block c.args.self.now c.begin.new.self c.requires.inside c.args.operator.now c.begin.result _ c.in-Block.is c.begin.ensures.ok c.begin.ensures.err;
  env = same_opening c.args.self.now c.begin.new.self _ _ _ c.begin.result c.begin.ensures.ok;
}

pub returns-in-Loop : goal.returns-in-Loop
returns-in-Loop c = record {
  step = at_loop c.args.self.now c.begin-in-Loop.new.self c.requires.inside c.args.operator.now c.begin-in-Loop.result _ c.in-Loop.is c.begin-in-Loop.ensures.ok c.begin-in-Loop.ensures.err;
  env = same_opening c.args.self.now c.begin-in-Loop.new.self _ _ _ c.begin-in-Loop.result c.begin-in-Loop.ensures.ok;
}

pub returns-in-If : goal.returns-in-If
returns-in-If c = record {
  step = at_if c.args.self.now c.begin-in-If.new.self c.requires.inside c.args.operator.now c.begin-in-If.result _ c.in-If.is c.begin-in-If.ensures.ok c.begin-in-If.ensures.err;
  env = same_opening c.args.self.now c.begin-in-If.new.self _ _ _ c.begin-in-If.result c.begin-in-If.ensures.ok;
}

pub returns-in-Try : goal.returns-in-Try
returns-in-Try c = record {
  step = at_try c.args.self.now c.begin-in-Try.new.self c.requires.inside c.args.operator.now c.begin-in-Try.result _ c.in-Try.is c.begin-in-Try.ensures.ok c.begin-in-Try.ensures.err;
  env = same_opening c.args.self.now c.begin-in-Try.new.self _ _ _ c.begin-in-Try.result c.begin-in-Try.ensures.ok;
}

pub returns-in-TryTable : goal.returns-in-TryTable
returns-in-TryTable c = record {
  step = at_try_table c.args.self.now c.begin-in-TryTable.new.self c.requires.inside c.args.operator.now c.begin-in-TryTable.result _ _ c.in-TryTable.is c.begin-in-TryTable.ensures.ok c.begin-in-TryTable.ensures.err;
  env = same_opening c.args.self.now c.begin-in-TryTable.new.self _ _ _ c.begin-in-TryTable.result c.begin-in-TryTable.ensures.ok;
}

pub returns-in-Else : goal.returns-in-Else
returns-in-Else c = record {
  step = at_else c.args.self.now c.part_if.new.self c.requires.inside c.args.operator.now c.part_if.result c.in-Else.is c.part_if.ensures.ok c.part_if.ensures.err;
  env = same_else c.args.self.now c.part_if.new.self c.part_if.result c.part_if.ensures.ok;
}

pub returns-in-Catch : goal.returns-in-Catch
returns-in-Catch c = record {
  step = at_catch c.args.self.now c.begin_clause.new.self c.requires.inside c.args.operator.now c.begin_clause.result _ c.in-Catch.is c.begin_clause.ensures.ok c.begin_clause.ensures.err;
  env = same_clause c.args.self.now c.begin_clause.new.self _ c.begin_clause.result c.begin_clause.ensures.ok;
}

pub returns-in-CatchAll : goal.returns-in-CatchAll
returns-in-CatchAll c = record {
  step = at_catch_all c.args.self.now c.begin_clause-in-CatchAll.new.self c.requires.inside c.args.operator.now c.begin_clause-in-CatchAll.result c.in-CatchAll.is c.begin_clause-in-CatchAll.ensures.ok c.begin_clause-in-CatchAll.ensures.err;
  env = same_clause c.args.self.now c.begin_clause-in-CatchAll.new.self _ c.begin_clause-in-CatchAll.result c.begin_clause-in-CatchAll.ensures.ok;
}

pub returns-in-Delegate : goal.returns-in-Delegate
returns-in-Delegate c = record {
  step = at_delegate c.args.self.now c.close_try.new.self c.requires.inside c.args.operator.now c.close_try.result _ c.in-Delegate.is c.close_try.ensures.ok c.close_try.ensures.err;
  env = same_delegate c.args.self.now c.close_try.new.self _ c.close_try.result c.close_try.ensures.ok;
}

pub returns-in-LocalGet : goal.returns-in-LocalGet
returns-in-LocalGet c = record {
  step = at_local_get c.args.self.now c.name_local.new.self c.requires.inside c.args.operator.now c.name_local.result _ c.in-LocalGet.is c.name_local.ensures.ok c.name_local.ensures.err;
  env = same_local c.args.self.now c.name_local.new.self _ c.name_local.result c.name_local.ensures.ok;
}

pub returns-in-LocalSet : goal.returns-in-LocalSet
returns-in-LocalSet c = record {
  step = at_local_set c.args.self.now c.name_local-in-LocalSet.new.self c.requires.inside c.args.operator.now c.name_local-in-LocalSet.result _ c.in-LocalSet.is c.name_local-in-LocalSet.ensures.ok c.name_local-in-LocalSet.ensures.err;
  env = same_local c.args.self.now c.name_local-in-LocalSet.new.self _ c.name_local-in-LocalSet.result c.name_local-in-LocalSet.ensures.ok;
}

pub returns-in-LocalTee : goal.returns-in-LocalTee
returns-in-LocalTee c = record {
  step = at_local_tee c.args.self.now c.name_local-in-LocalTee.new.self c.requires.inside c.args.operator.now c.name_local-in-LocalTee.result _ c.in-LocalTee.is c.name_local-in-LocalTee.ensures.ok c.name_local-in-LocalTee.ensures.err;
  env = same_local c.args.self.now c.name_local-in-LocalTee.new.self _ c.name_local-in-LocalTee.result c.name_local-in-LocalTee.ensures.ok;
}

pub returns-in-End : goal.returns-in-End
returns-in-End c = record {
  step = at_end c.args.self.now c.close.new.self c.requires.inside c.args.operator.now c.in-End.is c.close.result c.close.ensures;
  env = same_end c.args.self.now c.close.new.self c.requires.inside c.close.result c.close.ensures;
}

pub returns-in_default : goal.returns-in_default
returns-in_default c =
    let other = c.in_default in
    record {
      step = at_other c.args.self.now c.take.new.self c.requires.inside c.args.operator.now c.take.result
          (makes_instruction c.args.operator.now other.not-Nop other.not-Block other.not-Loop other.not-If other.not-Else other.not-Try other.not-Catch other.not-CatchAll other.not-Delegate other.not-TryTable other.not-End)
          other.not-LocalGet other.not-LocalSet other.not-LocalTee c.take.ensures.ok c.take.ensures.err;
      env = same_taken c.args.self.now c.take.new.self _ _ c.take.result c.take.ensures.ok;
    }
