use Rattle.std.proofs.Common.{◌≡◌, ◌-◌, ◌+◌, arith}
use Rattle.wasm_validator.specs.Plain.{field_types}
use Rattle.wasm_validator.specs.Steps.{setting_of, inner_of, operand_stack, pop_all_in}
use Rattle.wasm_validator.proofs.Repeated.{field_type_at, still_same, fields_on, fields_end}
use Rattle.wasm_validator.proofs.state.Validator.pop_fields.Goals as goal

pub loop-left-preserved : goal.loop-left-preserved
loop-left-preserved c =
    let v = c.args.self.now in
    let u = c.loop-left.self in
    let w = c.pop.new.self in
    let n = c.loop-left.left in
    let t = c.unpacked.result in
    let ts = field_types c.args.fields.now in
    let positive = c.loop-left-test.true in
    let within = c.loop-left.invariant.within in
    let more : n ≡ (n - 1) + 1 = omega arith in
    record {
      within = omega arith;
      same = still_same v u w (n - 1) n t more c.loop-left.invariant.same c.pop.ensures.same;
      pops = fields_on v u w (n - 1) n t more c.loop-left.invariant.same ts (pop_all_in (setting_of v) (inner_of v) ts (operand_stack v)) (field_type_at c.args.fields.now (n - 1) _ t (omega arith) c.unpacked.ensures) c.in-Ok.ensures.pops c.loop-left.invariant.pops;
    }

pub returns-in-Err-clause-pops : goal.returns-in-Err-clause-pops
returns-in-Err-clause-pops c =
    let v = c.args.self.now in
    let u = c.loop-left.self in
    let n = c.loop-left.left in
    let positive = c.loop-left-test.true in
    let within = c.loop-left.invariant.within in
    fields_end v u c.pop.new.self (n - 1) n c.unpacked.result (omega arith) c.loop-left.invariant.same (field_types c.args.fields.now)
    (pop_all_in (setting_of v) (inner_of v) (field_types c.args.fields.now) (operand_stack v)) c.in-Err.fault (field_type_at c.args.fields.now (n - 1) _ c.unpacked.result (omega arith) c.unpacked.ensures) c.in-Err.ensures.pops c.loop-left.invariant.pops
