use Rattle.std.proofs.Common.{rules, ◌≡◌, false, sym, subst}
use Rattle.wasm_operators.specs.Meaning.{meaning}
use Rattle.wasm_ops.specs.CommonOperators.{common_listed}
use Rattle.wasm_context.specs.Validation.{BodyState}
use Rattle.wasm_validator.specs.WellFormed.{IsWellFormed}
use Rattle.wasm_validator.specs.Steps.{setting_of, open_state, whole_state_of}
use Rattle.wasm_validator.proofs.Stepping.{reaches, state_inside, well_formed_after}
use Rattle.wasm_validator.proofs.state.Validator.step_common.Goals as goal

pub step_common_inside-requires-clause-reach : goal.step_common_inside-requires-clause-reach
step_common_inside-requires-clause-reach c =
    let v = c.args.self.now in
    let here : v.ended ≡ false = search rules in
    reaches v (subst (λ (s : BodyState). IsWellFormed s) (sym (state_inside v here)) c.requires)

pub returns-clause-well_formed : goal.returns-clause-well_formed
returns-clause-well_formed c =
    let v = c.args.self.now in
    let w = c.step_common_inside.new.self in
    let here : v.ended ≡ false = search rules in
    well_formed_after (setting_of v) (meaning (common_listed c.args.op)) (open_state v) (whole_state_of w) c.step_common_inside.result c.step_common_inside.ensures.step
    (subst (λ (s : BodyState). IsWellFormed s) (sym (state_inside v here)) c.requires)
