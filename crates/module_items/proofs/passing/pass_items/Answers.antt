use Rattle.std.proofs.Common.{◌≡◌, ℕ, ◌-◌, List, length, take, Result, Ok, Err, refl, sym, ap, ◌∙◌}
use Rattle.wasm_numbers.specs.Results.{◌>>=◌}
use Rattle.wasm_sections.specs.declared.fault.ModuleError.{ModuleError}
use Rattle.wasm_sections.proofs.RepeatedLemmas.{no_step_done, step_done, step_fails, all_done}
use Rattle.module_items.specs.Items.{item_part}
use Rattle.module_items.proofs.passing.pass_items.Goals as goal

pub items-init : goal.items-init
items-init c = record {
  same_end = refl;
  left = no_step_done {A = Unit {0}} (λ u. item_part c.args.kind) c.args.count tt c.args.input.now.end c.args.input.now.rest.now;
}

pub items-preserved : goal.items-preserved
items-preserved c =
    let end = c.args.input.now.end in
    let at = c.items in
    let following = c.pass_item.new.input.rest.now in
    let is : item_part c.args.kind end at.input.rest.now ≡ Ok (tt, following) =
    ap (λ (n : ℕ). item_part c.args.kind n at.input.rest.now) (sym at.invariant.same_end) ∙ c.in-Ok.ensures.is in
    record {
      same_end = c.in-Ok.ensures.same_end ∙ at.invariant.same_end;
      left = step_done {A = Unit {0}} (λ u. item_part c.args.kind) c.args.count at.counter tt tt end c.args.input.now.rest.now at.input.rest.now
          at.invariant.left tt following c.items-test.true is;
    }

pub returns-in-Err-clause-is : goal.returns-in-Err-clause-is
returns-in-Err-clause-is c =
    let end = c.args.input.now.end in
    let text = c.args.input.now.rest.now in
    let at = c.items in
    let is : item_part c.args.kind end at.input.rest.now ≡ Err c.in-Err.error =
    ap (λ (n : ℕ). item_part c.args.kind n at.input.rest.now) (sym at.invariant.same_end) ∙ c.in-Err.ensures.is in
    ap (λ (r : Result (Unit {0} × List ℕ) ModuleError). r >>= λ x. Ok (take (length text - length x.1) text, x.1))
    (step_fails {A = Unit {0}} (λ u. item_part c.args.kind) c.args.count at.counter tt tt end text at.input.rest.now at.invariant.left
    c.in-Err.error c.items-test.true is)

pub returns-clause-is : goal.returns-clause-is
returns-clause-is c =
    let end = c.args.input.now.end in
    let text = c.args.input.now.rest.now in
    let at = c.items in
    ap (λ (r : Result (Unit {0} × List ℕ) ModuleError). r >>= λ x. Ok (take (length text - length x.1) text, x.1))
    (all_done {A = Unit {0}} (λ u. item_part c.args.kind) c.args.count at.counter tt tt end text at.input.rest.now at.invariant.left c.items-test.false)
    ∙ ap (λ (l : List ℕ). Ok (l, at.input.rest.now)) (sym c.until.ensures)
