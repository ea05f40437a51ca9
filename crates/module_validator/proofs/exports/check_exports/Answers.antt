use Rattle.std.proofs.Common.{ℕ, List, [], sym, ap, subst, ◌∙◌}
use Rattle.wasm_numbers.specs.Results.{Gives}
use Rattle.wasm_sections.specs.Parts.{no_more, whole_part}
use Rattle.wasm_sections.proofs.TypeReadingLemmas.{unless_memory_first, unless_memory_as}
use Rattle.module_validator.specs.ModuleRules.{export_rule}
use Rattle.module_validator.proofs.LoopLemmas.{items_of, no_item_passed, item_passed, item_fails, items_passed, whole_gives, whole_fails, value_passed, done}
use Rattle.module_validator.proofs.NameLemmas.{none_found}
use Rattle.module_validator.proofs.exports.check_exports.Goals as goal

pub exports-init : goal.exports-init
exports-init c = record {
  same_end = c.number.ensures.same_end;
  so_far = [];
  has = none_found c.new-names.result c.new-names.ensures.empty;
  left = no_item_passed export_rule c.in-Ok.count [] c.args.input.end c.args.input.rest.now c.number.new.self.rest.now c.in-Ok.ensures.is;
}

pub exports-preserved : goal.exports-preserved
exports-preserved c =
    let end = c.args.input.end in
    let at = c.exports in
    let so_far = at.invariant.so_far in
    let new = c.check_export.new in
    let given = c.in-Ok-check_export.ensures.is so_far at.invariant.has in
    record {
      same_end = c.check_export.ensures.same_end ∙ at.invariant.same_end;
      so_far = given.0;
      has = given.2;
      left = item_passed export_rule c.in-Ok.count at.counter [] so_far end c.args.input.rest.now at.input.rest.now at.invariant.left given.0 new.input.rest.now
          c.exports-test.true (ap (λ (n : ℕ). export_rule so_far n at.input.rest.now) (sym at.invariant.same_end) ∙ given.1);
    }

pub returns-in-Err-check_export : goal.returns-in-Err-check_export
returns-in-Err-check_export c =
    let end = c.args.input.end in
    let text = c.args.input.rest.now in
    let at = c.exports in
    let so_far = at.invariant.so_far in
    let error = c.in-Err-check_export.error in
    unless_memory_first error (whole_part (items_of export_rule []) end text) (λ (names : List (List ℕ)). done names)
    (whole_fails (items_of export_rule []) end text error
    (item_fails export_rule c.in-Ok.count at.counter [] so_far end text at.input.rest.now at.invariant.left error c.exports-test.true
    (unless_memory_as error (export_rule so_far at.input.end at.input.rest.now) (export_rule so_far end at.input.rest.now)
    (ap (λ (n : ℕ). export_rule so_far n at.input.rest.now) (sym at.invariant.same_end)) (c.in-Err-check_export.ensures.is so_far at.invariant.has))))

pub returns : goal.returns
returns c =
    let end = c.args.input.end in
    let text = c.args.input.rest.now in
    let at = c.exports in
    let so_far = at.invariant.so_far in
    value_passed so_far c.finish.result (whole_part (items_of export_rule []) end text)
    (whole_gives (items_of export_rule []) end text at.input.rest.now so_far c.finish.result
    (items_passed export_rule c.in-Ok.count at.counter [] so_far end text at.input.rest.now at.invariant.left c.exports-test.false)
    (subst (λ (n : ℕ). Gives (λ u. tt) c.finish.result (no_more at.input.rest.now n)) at.invariant.same_end c.finish.ensures.is))
