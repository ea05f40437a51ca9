use Rattle.std.proofs.Common.{◌≡◌, ℕ, Ok, Err, sym, ap, ◌∙◌}
use Rattle.wasm_sections.specs.Format.{element_part}
use Rattle.wasm_sections.proofs.RepeatedLemmas.{no_step_done, step_done, step_fails, all_done, counted}
use Rattle.wasm_sections.proofs.input.Input.elements.Goals as goal

pub elements-init : goal.elements-init
elements-init c = record {
  same_end = c.in-Ok.ensures.same_end;
  left = no_step_done {A = Unit {0}} (λ u. element_part c.args.are_expressions) c.in-Ok.count tt c.args.self.now.end c.number.new.self.rest.now;
}

pub elements-preserved : goal.elements-preserved
elements-preserved c =
    let end = c.args.self.now.end in
    let at = c.elements in
    let following = c.element.new.self.rest.now in
    let is : element_part c.args.are_expressions end at.self.rest.now ≡ Ok (tt, following) =
    ap (λ (n : ℕ). element_part c.args.are_expressions n at.self.rest.now) (sym at.invariant.same_end) ∙ c.in-Ok-element.ensures.is in
    record {
      same_end = c.in-Ok-element.ensures.same_end ∙ at.invariant.same_end;
      left = step_done {A = Unit {0}} (λ u. element_part c.args.are_expressions) c.in-Ok.count at.counter tt tt end c.number.new.self.rest.now at.self.rest.now
          at.invariant.left tt following c.elements-test.true is;
    }

pub returns-in-Err-element-clause-is : goal.returns-in-Err-element-clause-is
returns-in-Err-element-clause-is c =
    let end = c.args.self.now.end in
    let at = c.elements in
    let items = c.number.new.self.rest.now in
    let is : element_part c.args.are_expressions end at.self.rest.now ≡ Err c.in-Err-element.error =
    ap (λ (n : ℕ). element_part c.args.are_expressions n at.self.rest.now) (sym at.invariant.same_end) ∙ c.in-Err-element.ensures.is in
    counted {A = Unit {0}} (λ u. element_part c.args.are_expressions) c.in-Ok.count tt end c.args.self.now.rest.now items (Err c.in-Err-element.error) c.in-Ok.ensures.is
    (step_fails {A = Unit {0}} (λ u. element_part c.args.are_expressions) c.in-Ok.count at.counter tt tt end items at.self.rest.now at.invariant.left
    c.in-Err-element.error c.elements-test.true is)

pub returns-clause-is : goal.returns-clause-is
returns-clause-is c =
    let end = c.args.self.now.end in
    let at = c.elements in
    let items = c.number.new.self.rest.now in
    counted {A = Unit {0}} (λ u. element_part c.args.are_expressions) c.in-Ok.count tt end c.args.self.now.rest.now items (Ok (tt, at.self.rest.now)) c.in-Ok.ensures.is
    (all_done {A = Unit {0}} (λ u. element_part c.args.are_expressions) c.in-Ok.count at.counter tt tt end items at.self.rest.now at.invariant.left c.elements-test.false)
