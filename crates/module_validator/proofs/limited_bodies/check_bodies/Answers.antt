use Rattle.std.proofs.Common.{◌≡◌, ◌-◌, length, ◌∙◌, inr, rules}
use Rattle.module_context.specs.ReadContexts.{read_setting}
use Rattle.module_validator.specs.EngineLimits.{next_body_limits}
use Rattle.module_validator.specs.ModuleRules.{operands_of_module}
use Rattle.module_validator.proofs.BodyLemmas.{no_number, no_body_passed, body_passed, body_refused, bodies_passed}
use Rattle.module_validator.proofs.limited_bodies.check_bodies.Goals as goal

pub returns-in-Err : goal.returns-in-Err
returns-in-Err c =
    let s = read_setting c.args.setting.now in
    no_number (next_body_limits s) (length (operands_of_module s).functions) c.args.input.end c.args.input.rest.now c.in-Err.error (inr c.in-Err.ensures.is)

pub bodies-init : goal.bodies-init
bodies-init c =
    let s = read_setting c.args.setting.now in
    record {
      same_end = c.number.ensures.same_end;
      left = no_body_passed (next_body_limits s) (length (operands_of_module s).functions) c.in-Ok.count c.saturating_sub-first.result c.args.input.end c.args.input.rest.now
          c.number.new.self.rest.now c.in-Ok.ensures.is;
    }

pub bodies-preserved : goal.bodies-preserved
bodies-preserved c =
    let s = read_setting c.args.setting.now in
    let at = c.bodies in
    record {
      same_end = c.check_body.ensures.same_end ∙ at.invariant.same_end;
      left = body_passed (next_body_limits s) (length (operands_of_module s).functions) c.in-Ok.count c.saturating_sub-first.result c.args.input.end c.args.input.rest.now
          c.number.new.self.rest.now c.in-Ok.ensures.is at.index at.input.end at.input.rest.now at.invariant.same_end at.invariant.left
          c.check_body.new.input.rest.now c.bodies-test.true c.in-Ok-check_body.ensures.is;
    }

pub returns-in-Err-check_body : goal.returns-in-Err-check_body
returns-in-Err-check_body c =
    let s = read_setting c.args.setting.now in
    let at = c.bodies in
    let first_is : c.saturating_sub-first.result ≡ length (operands_of_module s).functions - c.in-Ok.count = search rules in
    body_refused (next_body_limits s) (length (operands_of_module s).functions) c.in-Ok.count c.saturating_sub-first.result c.args.input.end c.args.input.rest.now
    c.number.new.self.rest.now c.in-Ok.ensures.is at.index at.input.end at.input.rest.now at.invariant.same_end at.invariant.left c.in-Err-check_body.error
    first_is c.bodies-test.true c.in-Err-check_body.ensures.is

pub returns : goal.returns
returns c =
    let s = read_setting c.args.setting.now in
    let at = c.bodies in
    let first_is : c.saturating_sub-first.result ≡ length (operands_of_module s).functions - c.in-Ok.count = search rules in
    bodies_passed (next_body_limits s) (length (operands_of_module s).functions) c.in-Ok.count c.saturating_sub-first.result c.args.input.end c.args.input.rest.now
    c.number.new.self.rest.now c.in-Ok.ensures.is at.index at.input.end at.input.rest.now at.invariant.same_end at.invariant.left c.finish.result first_is
    c.bodies-test.false c.finish.ensures.is
