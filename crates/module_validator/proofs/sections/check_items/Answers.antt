use Rattle.std.proofs.Common.{◌≡◌, ℕ, Ok, sym, ap, subst, ◌∙◌, inr}
use Rattle.wasm_numbers.specs.Results.{Gives}
use Rattle.wasm_sections.specs.Parts.{Part, number, repeated, no_more}
use Rattle.wasm_sections.specs.Sections.{section_id}
use Rattle.wasm_sections.proofs.TypeReadingLemmas.{first_fails, unless_memory_as}
use Rattle.module_context.specs.ReadContexts.{read_setting}
use Rattle.module_validator.specs.Checks.{item_rule}
use Rattle.module_validator.proofs.LoopLemmas.{items_of, no_item_passed, item_passed, item_fails, items_passed, whole_gives, whole_fails}
use Rattle.module_validator.proofs.sections.check_items.Goals as goal

pub returns-in-Err : goal.returns-in-Err
returns-in-Err c =
    let step : Unit {0} → Part (Unit {0}) = λ u. item_rule (section_id c.args.kind) (read_setting c.args.setting.now) in
    let end = c.args.input.end in
    let text = c.args.input.rest.now in
    whole_fails (items_of step tt) end text c.in-Err.error
    (inr (first_fails (number end text) (λ n. repeated step n.0 tt end n.1) c.in-Err.error c.in-Err.ensures.is))

pub items-init : goal.items-init
items-init c =
    let step : Unit {0} → Part (Unit {0}) = λ u. item_rule (section_id c.args.kind) (read_setting c.args.setting.now) in
    record {
      same_end = c.number.ensures.same_end;
      left = no_item_passed step c.in-Ok.count tt c.args.input.end c.args.input.rest.now c.number.new.self.rest.now c.in-Ok.ensures.is;
    }

pub items-preserved : goal.items-preserved
items-preserved c =
    let step : Unit {0} → Part (Unit {0}) = λ u. item_rule (section_id c.args.kind) (read_setting c.args.setting.now) in
    let end = c.args.input.end in
    let at = c.items in
    let following = c.check_item.new.input.rest.now in
    let is : step tt end at.input.rest.now ≡ Ok (tt, following) =
    ap (λ (n : ℕ). step tt n at.input.rest.now) (sym at.invariant.same_end) ∙ c.in-Ok-check_item.ensures.is in
    record {
      same_end = c.check_item.ensures.same_end ∙ at.invariant.same_end;
      left = item_passed step c.in-Ok.count at.counter tt tt end c.args.input.rest.now at.input.rest.now at.invariant.left tt following c.items-test.true is;
    }

pub returns-in-Err-check_item : goal.returns-in-Err-check_item
returns-in-Err-check_item c =
    let step : Unit {0} → Part (Unit {0}) = λ u. item_rule (section_id c.args.kind) (read_setting c.args.setting.now) in
    let end = c.args.input.end in
    let text = c.args.input.rest.now in
    let at = c.items in
    let error = c.in-Err-check_item.error in
    whole_fails (items_of step tt) end text error
    (item_fails step c.in-Ok.count at.counter tt tt end text at.input.rest.now at.invariant.left error c.items-test.true
    (unless_memory_as error (step tt at.input.end at.input.rest.now) (step tt end at.input.rest.now)
    (ap (λ (n : ℕ). step tt n at.input.rest.now) (sym at.invariant.same_end)) c.in-Err-check_item.ensures.is))

pub returns : goal.returns
returns c =
    let step : Unit {0} → Part (Unit {0}) = λ u. item_rule (section_id c.args.kind) (read_setting c.args.setting.now) in
    let end = c.args.input.end in
    let text = c.args.input.rest.now in
    let at = c.items in
    whole_gives (items_of step tt) end text at.input.rest.now tt c.finish.result
    (items_passed step c.in-Ok.count at.counter tt tt end text at.input.rest.now at.invariant.left c.items-test.false)
    (subst (λ (n : ℕ). Gives (λ u. tt) c.finish.result (no_more at.input.rest.now n)) at.invariant.same_end c.finish.ensures.is)
