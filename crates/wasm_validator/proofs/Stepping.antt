-- A step of the code, by the equation of its operator.
use Rattle.std.proofs.Common.{◌≡◌, [], Bool, false, Result, Ok, Err, sym, ap, subst, ◌∙◌, arith}
use Rattle.std.specs.Prelude.{OnOk, if◌then◌else◌}
use Rattle.wasm_operators.specs.Operations.{RawOperation}
use Rattle.wasm_body.specs.Control.{control_of}
use Rattle.wasm_body.specs.Validity.{Checked}
use Rattle.wasm_typing.specs.StandardRules.{standard_rules}
use Rattle.wasm_context.specs.Validation.{BodyContext, BodyState, typing_in, named_step, raw_named, raw_step}
use Rattle.wasm_validator.specs.declared.fault.Fault.{Fault}
use Rattle.wasm_validator.specs.declared.state.Validator.{Validator}
use Rattle.wasm_validator.specs.WellFormed.{IsWellFormed}
use Rattle.wasm_validator.specs.Steps.{ResultsIn, setting_of, open_state, ended_of, whole_state_of, ReachesHeight}
use Rattle.wasm_validator.proofs.Lists.{length_onto}
use Rattle.wasm_validator.proofs.WellFormed.{before, steps}

-- ---- states

pub reaches : (v : Validator) → IsWellFormed (open_state v) → ReachesHeight v
reaches v well_formed =
    let l = length_onto v.operands.items [] in
    let h = well_formed.0 in
    omega arith

abbrev either : Validator → Bool → BodyState
either v ended = if ended then ended_of v else open_state v

pub state_inside : (v : Validator) → v.ended ≡ false → open_state v ≡ whole_state_of v
state_inside v h = ap (either v) (sym h)

-- ---- a step

module _ {O : Type 0} (m : O → RawOperation) (v w : Validator) (o p : O) (r : Result (Unit {0}) Fault) (is : o ≡ p) where
  -- what a method did is the step, by its equation
  pub by_equation : (t : BodyState) (want : Checked BodyState) → raw_step (setting_of v) (m p) (open_state v) ≡ want → ResultsIn want r t
      → ResultsIn (raw_step (setting_of v) (m o) (open_state v)) r t
  by_equation t want e h = subst (λ (q : O). ResultsIn (raw_step (setting_of v) (m q) (open_state v)) r t) (sym is) (subst (λ a. ResultsIn a r t) (sym e) h)

  -- and it leaves the function's frame open
  pub by_method : (want : Checked BodyState) → v.ended ≡ false → w.ended ≡ v.ended → raw_step (setting_of v) (m p) (open_state v) ≡ want → ResultsIn want r (open_state w)
      → ResultsIn (raw_step (setting_of v) (m o) (open_state v)) r (whole_state_of w)
  by_method want here same e h = subst (ResultsIn (raw_step (setting_of v) (m o) (open_state v)) r) (state_inside w (same ∙ here)) (by_equation (open_state w) want e h)

-- after a step the state well_formed again
pub well_formed_again : (b : BodyContext) (o : RawOperation) (s next : BodyState) → raw_step b o s ≡ Ok next → IsWellFormed s → IsWellFormed next
well_formed_again b o s next h well_formed =
    let p = before (raw_named b o) (λ n. named_step b n s) next h in
    steps (typing_in b) (standard_rules b.operands) (control_of p.0) p.0 s.stacks s.controls next p.2 well_formed

pub well_formed_after : (b : BodyContext) (o : RawOperation) (s next : BodyState) (r : Result (Unit {0}) Fault) → ResultsIn (raw_step b o s) r next → IsWellFormed s → OnOk r (IsWellFormed next)
well_formed_after b o s next (Ok u) h well_formed = well_formed_again b o s next h well_formed
well_formed_after b o s next (Err e) h well_formed = tt
