use Rattle.std.proofs.Common.{◌≡◌, ℕ, Ok, sym, ap, ◌∙◌}
use Rattle.wasm_sections.specs.Parts.{Part}
use Rattle.wasm_sections.proofs.TypeReadingLemmas.{unless_memory_as}
use Rattle.module_context.specs.ReadContexts.{read_setting}
use Rattle.module_validator.specs.ModuleRules.{element_rule}
use Rattle.module_validator.proofs.LoopLemmas.{no_item_passed, item_passed, item_fails, items_passed}
use Rattle.module_validator.proofs.segments.check_elements.Goals as goal

pub elements-init : goal.elements-init
elements-init c =
    let step : Unit {0} → Part (Unit {0}) = λ u. element_rule (read_setting c.args.setting.now) c.args.are_expressions c.args.ty in
    record {
      same_end = c.number.ensures.same_end;
      left = no_item_passed step c.in-Ok.count tt c.args.input.now.end c.args.input.now.rest.now c.number.new.self.rest.now c.in-Ok.ensures.is;
    }

pub elements-preserved : goal.elements-preserved
elements-preserved c =
    let step : Unit {0} → Part (Unit {0}) = λ u. element_rule (read_setting c.args.setting.now) c.args.are_expressions c.args.ty in
    let end = c.args.input.now.end in
    let at = c.elements in
    let following = c.check_element.new.input.rest.now in
    let is : step tt end at.input.rest.now ≡ Ok (tt, following) =
    ap (λ (n : ℕ). step tt n at.input.rest.now) (sym at.invariant.same_end) ∙ c.in-Ok-check_element.ensures.is in
    record {
      same_end = c.check_element.ensures.same_end ∙ at.invariant.same_end;
      left = item_passed step c.in-Ok.count at.counter tt tt end c.args.input.now.rest.now at.input.rest.now at.invariant.left tt following c.elements-test.true is;
    }

pub returns-in-Err-check_element-clause-is : goal.returns-in-Err-check_element-clause-is
returns-in-Err-check_element-clause-is c =
    let step : Unit {0} → Part (Unit {0}) = λ u. element_rule (read_setting c.args.setting.now) c.args.are_expressions c.args.ty in
    let end = c.args.input.now.end in
    let at = c.elements in
    let error = c.in-Err-check_element.error in
    item_fails step c.in-Ok.count at.counter tt tt end c.args.input.now.rest.now at.input.rest.now at.invariant.left error c.elements-test.true
    (unless_memory_as error (step tt at.input.end at.input.rest.now) (step tt end at.input.rest.now)
    (ap (λ (n : ℕ). step tt n at.input.rest.now) (sym at.invariant.same_end)) c.in-Err-check_element.ensures.is)

pub returns-clause-is : goal.returns-clause-is
returns-clause-is c =
    let step : Unit {0} → Part (Unit {0}) = λ u. element_rule (read_setting c.args.setting.now) c.args.are_expressions c.args.ty in
    let at = c.elements in
    items_passed step c.in-Ok.count at.counter tt tt c.args.input.now.end c.args.input.now.rest.now at.input.rest.now at.invariant.left c.elements-test.false
