use Rattle.std.proofs.Common.{◌≡◌, suc, ◌+◌, ◌-◌, length, ◌≢◌, arith, rules, ap, sym, ◌∙◌}
use Rattle.std.specs.Prelude.{map, None, Some}
use Rattle.std.proofs.lemmas.List.{length-map}
use Rattle.wasm_typing.specs.Matching.{first_of}
use Rattle.wasm_context.specs.Contexts.{defined_of, operands_in}
use Rattle.wasm_context.proofs.Supertypes.{reaches, reaches_none, reaches_here, reaches_above}
use Rattle.wasm_context.proofs.context.Context.matches_defined.Goals as goal

pub loop-step-init : goal.loop-step-init
loop-step-init c = record {
  counts = omega arith;
  same = λ locals.
      let k = operands_in c.args.self.now locals in
      let counted : length c.args.self.now.types.items ≡ c.len-step-end.result = search rules in
      let steps : suc (length (map defined_of c.args.self.now.types.items)) ≡ c.len-step-end.result + 1 - 0 =
      omega (arith, length-map c.args.self.now.types.items defined_of) in
      ap (λ n. reaches k (first_of k c.args.wanted) n (Some c.args.index)) steps;
}

pub returns-then-first : goal.returns-then-first
returns-then-first c = λ locals.
    let k = operands_in c.args.self.now locals in
    let first = first_of k c.args.wanted in
    let current = c.loop-step.current in
    let left = c.len-step-end.result + 1 - (c.loop-step._step + 1) in
    let steps : c.len-step-end.result + 1 - c.loop-step._step ≡ suc left = omega arith in
    let same : first_of k current ≡ first = c.first.ensures ∙ c.if-first.true ∙ sym c.first-first.ensures in
    c.loop-step.invariant.same locals ∙ ap (λ n. reaches k first n (Some current)) steps ∙ reaches_here k first left current same

pub returns-in-None : goal.returns-in-None
returns-in-None c = λ locals.
    let k = operands_in c.args.self.now locals in
    let first = first_of k c.args.wanted in
    let current = c.loop-step.current in
    let left = c.len-step-end.result + 1 - (c.loop-step._step + 1) in
    let steps : c.len-step-end.result + 1 - c.loop-step._step ≡ suc left = omega arith in
    let other : first_of k current ≢ first = λ e. c.if-first.false (sym c.first.ensures ∙ e ∙ c.first-first.ensures) in
    c.loop-step.invariant.same locals ∙ ap (λ n. reaches k first n (Some current)) steps
    ∙ reaches_above k first left current None other (c.supertype.ensures ∙ c.in-None.is) ∙ reaches_none k first left

pub loop-step-preserved : goal.loop-step-preserved
loop-step-preserved c = record {
  counts = omega arith;
  same = λ locals.
      let k = operands_in c.args.self.now locals in
      let first = first_of k c.args.wanted in
      let current = c.loop-step.current in
      let left = c.len-step-end.result + 1 - (c.loop-step._step + 1) in
      let steps : c.len-step-end.result + 1 - c.loop-step._step ≡ suc left = omega arith in
      let other : first_of k current ≢ first = λ e. c.if-first.false (sym c.first.ensures ∙ e ∙ c.first-first.ensures) in
      c.loop-step.invariant.same locals ∙ ap (λ n. reaches k first n (Some current)) steps
      ∙ reaches_above k first left current (Some c.in-Some.above) other (c.supertype.ensures ∙ c.in-Some.is);
}
