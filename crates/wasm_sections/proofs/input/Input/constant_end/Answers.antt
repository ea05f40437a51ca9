use Rattle.std.proofs.Common.{◌≡◌, ℕ, Bool, true, false, Ok, Err, sym, ap, ◌∙◌}
use Rattle.wasm_sections.proofs.ConstantLemmas.{constant_step, one_read, last_read, one_unread}
use Rattle.wasm_sections.proofs.input.Input.constant_end.Goals as goal

pub returns-in-Ok-true-clause-is : goal.returns-in-Ok-true-clause-is
returns-in-Ok-true-clause-is c =
    let now = c.operators.self.rest.now in
    let next = c.constant_operator.new.self.rest.now in
    let end = c.args.self.now.end in
    let is : constant_step end now ≡ Ok (true, next) =
    ap (λ (n : ℕ). constant_step n now) (sym c.operators.invariant.same_end) ∙ c.in-Ok-true.ensures.is
    ∙ ap (λ (b : Bool). Ok (b, next)) c.in-Ok-true.field-0-test in
    last_read end c.args.self.now.rest.now now next c.operators.invariant.left c.in-Ok-true.ensures.shorter is

pub operators-preserved : goal.operators-preserved
operators-preserved c =
    let now = c.operators.self.rest.now in
    let next = c.constant_operator.new.self.rest.now in
    let end = c.args.self.now.end in
    let is : constant_step end now ≡ Ok (false, next) =
    ap (λ (n : ℕ). constant_step n now) (sym c.operators.invariant.same_end) ∙ c.in-Ok-false.ensures.is
    ∙ ap (λ (b : Bool). Ok (b, next)) c.in-Ok-false.field-0-test in
    record {
      same_end = c.in-Ok-false.ensures.same_end ∙ c.operators.invariant.same_end;
      left = one_read end c.args.self.now.rest.now now next c.operators.invariant.left c.in-Ok-false.ensures.shorter is;
    }

pub returns-in-Err-clause-is : goal.returns-in-Err-clause-is
returns-in-Err-clause-is c =
    let now = c.operators.self.rest.now in
    let end = c.args.self.now.end in
    let is : constant_step end now ≡ Err c.in-Err.error =
    ap (λ (n : ℕ). constant_step n now) (sym c.operators.invariant.same_end) ∙ c.in-Err.ensures.is in
    one_unread end c.args.self.now.rest.now now c.in-Err.error c.operators.invariant.left is
