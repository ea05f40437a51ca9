use Rattle.std.proofs.Common.{◌≡◌, ℕ, ◌+◌, Ok, sym, ap, subst, ◌∙◌, inr, arith}
use Rattle.wasm_numbers.specs.Results.{Gives}
use Rattle.wasm_sections.specs.Parts.{Part, number, repeated, no_more, whole_part}
use Rattle.wasm_sections.proofs.TypeReadingLemmas.{first_fails, unless_memory_first, unless_memory_as}
use Rattle.module_context.specs.ReadContexts.{read_setting}
use Rattle.module_validator.specs.ModuleRules.{global_rule}
use Rattle.module_validator.proofs.LoopLemmas.{ItemsLeft, items_of, no_item_passed, item_passed, item_fails, items_passed, whole_gives, whole_fails, value_passed, done}
use Rattle.module_validator.proofs.globals.check_globals.Goals as goal

pub returns-in-Err : goal.returns-in-Err
returns-in-Err c =
    let step : ℕ → Part ℕ = global_rule (read_setting c.args.setting.now) in
    let first = c.args.setting.now.imported_globals in
    let end = c.args.input.end in
    let text = c.args.input.rest.now in
    unless_memory_first c.in-Err.error (whole_part (items_of step first) end text) (λ (n : ℕ). done n)
    (whole_fails (items_of step first) end text c.in-Err.error
    (inr (first_fails (number end text) (λ n. repeated step n.0 first end n.1) c.in-Err.error c.in-Err.ensures.is)))

pub globals-init : goal.globals-init
globals-init c =
    let step : ℕ → Part ℕ = global_rule (read_setting c.args.setting.now) in
    let first = c.args.setting.now.imported_globals in
    let end = c.args.input.end in
    let text = c.args.input.rest.now in
    let rest = c.number.new.self.rest.now in
    let same : first ≡ first + 0 = omega arith in
    record {
      same_end = c.number.ensures.same_end;
      left = subst (λ (n : ℕ). ItemsLeft step c.in-Ok.count 0 first n end text rest) same (no_item_passed step c.in-Ok.count first end text rest c.in-Ok.ensures.is);
    }

pub globals-preserved : goal.globals-preserved
globals-preserved c =
    let step : ℕ → Part ℕ = global_rule (read_setting c.args.setting.now) in
    let first = c.args.setting.now.imported_globals in
    let end = c.args.input.end in
    let at = c.globals in
    let following = c.check_own_global.new.input.rest.now in
    let is : step (first + at.index) end at.input.rest.now ≡ Ok ((first + at.index) + 1, following) =
    ap (λ (n : ℕ). step (first + at.index) n at.input.rest.now) (sym at.invariant.same_end) ∙ c.in-Ok-check_own_global.ensures.is in
    let same : (first + at.index) + 1 ≡ first + (at.index + 1) = omega arith in
    record {
      same_end = c.check_own_global.ensures.same_end ∙ at.invariant.same_end;
      left = subst (λ (n : ℕ). ItemsLeft step c.in-Ok.count (at.index + 1) first n end c.args.input.rest.now following) same
          (item_passed step c.in-Ok.count at.index first (first + at.index) end c.args.input.rest.now at.input.rest.now at.invariant.left ((first + at.index) + 1) following
          c.globals-test.true is);
    }

pub returns-in-Err-check_own_global : goal.returns-in-Err-check_own_global
returns-in-Err-check_own_global c =
    let step : ℕ → Part ℕ = global_rule (read_setting c.args.setting.now) in
    let first = c.args.setting.now.imported_globals in
    let end = c.args.input.end in
    let text = c.args.input.rest.now in
    let at = c.globals in
    let now = first + at.index in
    let error = c.in-Err-check_own_global.error in
    unless_memory_first error (whole_part (items_of step first) end text) (λ (n : ℕ). done n)
    (whole_fails (items_of step first) end text error
    (item_fails step c.in-Ok.count at.index first now end text at.input.rest.now at.invariant.left error c.globals-test.true
    (unless_memory_as error (step now at.input.end at.input.rest.now) (step now end at.input.rest.now)
    (ap (λ (n : ℕ). step now n at.input.rest.now) (sym at.invariant.same_end)) c.in-Err-check_own_global.ensures.is)))

pub returns : goal.returns
returns c =
    let step : ℕ → Part ℕ = global_rule (read_setting c.args.setting.now) in
    let first = c.args.setting.now.imported_globals in
    let end = c.args.input.end in
    let text = c.args.input.rest.now in
    let at = c.globals in
    let now = first + at.index in
    value_passed now c.finish.result (whole_part (items_of step first) end text)
    (whole_gives (items_of step first) end text at.input.rest.now now c.finish.result
    (items_passed step c.in-Ok.count at.index first now end text at.input.rest.now at.invariant.left c.globals-test.false)
    (subst (λ (n : ℕ). Gives (λ u. tt) c.finish.result (no_more at.input.rest.now n)) at.invariant.same_end c.finish.ensures.is))
