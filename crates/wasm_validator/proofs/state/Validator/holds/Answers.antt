use Rattle.std.proofs.Common.{◌≢◌, ◌<◌, ◌-◌, get_or, take, [], Err, sym, ap, ◌∙◌, subst, arith}
use Rattle.wasm_numbers.specs.Results.{◌>>=◌}
use Rattle.wasm_types.specs.declared.val_type.ValType.TheVariants.{I32}
use Rattle.wasm_validator.specs.States.{known_of, operands_onto}
use Rattle.wasm_validator.specs.Steps.{ResultsIn, setting_of, fits_in}
use Rattle.wasm_validator.specs.Core.{holds_from}
use Rattle.wasm_validator.proofs.StepResults.{passes_on}
use Rattle.wasm_validator.proofs.Holding.{holds_next, holds_end}
use Rattle.wasm_validator.proofs.state.Validator.holds.Goals as goal

pub returns-then-height-self : goal.returns-then-height-self
returns-then-height-self c =
    let v = c.args.self.now in
    let i = c.loop-left.invariant in
    let some : 0 < c.loop-left.left = omega arith in
    subst (λ a. ResultsIn a c.demand.result tt) (sym (holds_end v c.args.types.now c.loop-left.left c.loop-left.height some i.within c.if-height-self.true i.below) ∙ i.same) c.demand.ensures

pub loop-left-preserved : goal.loop-left-preserved
loop-left-preserved c =
    let v = c.args.self.now in
    let i = c.loop-left.invariant in
    let types = c.args.types.now in
    let left = c.loop-left.left in
    let height = c.loop-left.height in
    let some : 0 < left = omega arith in
    let over : height ≢ v.inner.height = c.if-height-self.false in
    let step = holds_next v types left height c.index-operand.result.now some i.within i.above over i.below c.index-operand.ensures in
    record {
      within = omega arith;
      above = omega arith;
      below = omega arith;
      same = sym (step ∙ ap (λ a. a >>= λ u. holds_from v (operands_onto (take (height - 1) v.operands.items) []) (take (left - 1) types)) c.in-Ok.ensures) ∙ i.same;
    }

pub returns-in-Err : goal.returns-in-Err
returns-in-Err c =
    let v = c.args.self.now in
    let i = c.loop-left.invariant in
    let types = c.args.types.now in
    let left = c.loop-left.left in
    let height = c.loop-left.height in
    let some : 0 < left = omega arith in
    let x = c.index-operand.result.now in
    let e = c.in-Err.fault in
    let rest = holds_from v (operands_onto (take (height - 1) v.operands.items) []) (take (left - 1) types) in
    let step = holds_next v types left height x some i.within i.above c.if-height-self.false i.below c.index-operand.ensures in
    subst (λ a. ResultsIn a (Err e) tt) (sym step ∙ i.same)
    (passes_on (fits_in (setting_of v) (known_of x) (get_or types (left - 1) I32)) (λ u. rest) tt tt e c.in-Err.ensures)
