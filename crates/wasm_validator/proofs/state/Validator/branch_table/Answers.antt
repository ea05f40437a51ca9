use Rattle.wasm_validator.specs.Steps.{open_state}
use Rattle.wasm_context.specs.TypeLists.{types_in}
use Rattle.wasm_validator.proofs.Tables.{table_done, table_untaken}
use Rattle.wasm_validator.proofs.state.Validator.branch_table.Goals as goal

pub returns-in-Ok-may_go_to_each-clause-branches : goal.returns-in-Ok-may_go_to_each-clause-branches
returns-in-Ok-may_go_to_each-clause-branches c =
    let v = c.args.self.now in
    let w = c.pop.new.self in
    let l = c.in-Some.ensures in
    table_done v w c.args.table.now (open_state c.leave_with.new.self) c.targets.result c.default.result l.0 c.types_of-types.result.now (types_in w.context.now c.in-Some.list)
    c.targets.ensures c.default.ensures c.in-Ok.ensures.pops c.in-Ok.ensures.same l.1 l.2 c.types_of-types.ensures
    c.leave_with.result c.in-Ok-may_go_to_each.ensures c.leave_with.ensures.leaves

pub returns-in-Err-may_go_to_each-clause-branches : goal.returns-in-Err-may_go_to_each-clause-branches
returns-in-Err-may_go_to_each-clause-branches c =
    let v = c.args.self.now in
    let w = c.pop.new.self in
    let l = c.in-Some.ensures in
    table_untaken v w c.args.table.now (open_state w) c.targets.result c.default.result l.0 c.types_of-types.result.now (types_in w.context.now c.in-Some.list)
    c.targets.ensures c.default.ensures c.in-Ok.ensures.pops c.in-Ok.ensures.same l.1 l.2 c.types_of-types.ensures
    c.in-Err-may_go_to_each.fault c.in-Err-may_go_to_each.ensures
