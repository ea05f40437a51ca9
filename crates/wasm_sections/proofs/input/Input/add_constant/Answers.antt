use Rattle.std.proofs.Common.{ℕ, sym, ap, ◌∙◌}
use Rattle.wasm_sections.proofs.ReferenceLemmas.{one_operator, one_more_operator, last_operator, operator_fails}
use Rattle.wasm_sections.proofs.input.Input.add_constant.Goals as goal

pub returns-in-Ok-true-clause-is : goal.returns-in-Ok-true-clause-is
returns-in-Ok-true-clause-is c =
    let at = c.operators in
    let end = c.args.self.now.end in
    let next = c.add_operator.new in
    let one = c.in-Ok-true.ensures.is in
    last_operator end c.args.self.now.rest.now at.self.rest.now next.self.rest.now c.args.found.now.items at.found.items next.found.items one.0
    at.invariant.left c.in-Ok-true.ensures.shorter (ap (λ (n : ℕ). one_operator n at.self.rest.now) (sym at.invariant.same_end) ∙ one.1)
    (one.2 ∙ c.in-Ok-true.field-0-test) one.3

pub operators-preserved : goal.operators-preserved
operators-preserved c =
    let at = c.operators in
    let end = c.args.self.now.end in
    let next = c.add_operator.new in
    let one = c.in-Ok-false.ensures.is in
    record {
      same_end = c.in-Ok-false.ensures.same_end ∙ at.invariant.same_end;
      left =
          one_more_operator end c.args.self.now.rest.now at.self.rest.now next.self.rest.now c.args.found.now.items at.found.items next.found.items one.0
          at.invariant.left c.in-Ok-false.ensures.shorter (ap (λ (n : ℕ). one_operator n at.self.rest.now) (sym at.invariant.same_end) ∙ one.1)
          (one.2 ∙ c.in-Ok-false.field-0-test) one.3;
    }

pub returns-in-Err-clause-is : goal.returns-in-Err-clause-is
returns-in-Err-clause-is c =
    let at = c.operators in
    let next = c.add_operator.new in
    operator_fails c.args.self.now.end at.self.end c.args.self.now.rest.now at.self.rest.now c.args.found.now.items at.found.items next.found.items
    next.self.rest.now c.in-Err.error at.invariant.left at.invariant.same_end c.in-Err.ensures.is
