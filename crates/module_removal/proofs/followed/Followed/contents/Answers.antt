use Rattle.std.proofs.Common.{ℕ, List, [], refl, sym, subst, ◌∙◌}
use Rattle.module_removal.specs.Entries.{counted_bytes, entries_made}
use Rattle.module_removal.specs.LeftParts.{LeavesFunction, LeavesParts}
use Rattle.module_removal.proofs.SectionStepLemmas.{ItemsPassed, no_item_passed, one_more_item, all_items_passed}
use Rattle.module_removal.proofs.VectorLemmas.{bytes_then}
use Rattle.module_removal.proofs.followed.Followed.contents.Goals as goal

pub functions-init : goal.functions-init
functions-init c =
    let Step = LeavesFunction c.args.left.now c.args.self.now.parts.items in
    record {
      same_end = c.number.ensures.same_end;
      passed = λ order.
          subst (λ (so : ℕ × List ℕ). ItemsPassed Step c.args.contents.end c.args.contents.rest.now c.in-Ok.value 0 (0, []) (so, c.number.new.self.rest.now))
          (sym c.new-functions.ensures)
          (no_item_passed Step c.args.contents.end c.in-Ok.value c.args.contents.rest.now c.number.new.self.rest.now (0, []) c.in-Ok.ensures.is);
    }

pub functions-preserved : goal.functions-preserved
functions-preserved c =
    let at = c.functions in
    record {
      same_end = c.put_function.ensures.same_end ∙ at.invariant.same_end;
      passed = λ order.
          one_more_item (LeavesFunction c.args.left.now c.args.self.now.parts.items) c.args.contents.end at.input.end c.args.contents.rest.now c.in-Ok.value at.counter (0, [])
          (entries_made at.functions, at.input.rest.now) (entries_made c.put_function.new.functions, c.put_function.new.input.rest.now) (at.invariant.passed order)
          c.functions-test.true at.invariant.same_end (c.in-Ok-put_function.ensures.is order);
    }

pub returns : goal.returns
returns c = λ order.
    let at = c.functions in
    let all =
    all_items_passed (LeavesFunction c.args.left.now c.args.self.now.parts.items) c.args.contents.end c.args.contents.rest.now c.in-Ok.value at.counter (0, [])
    (entries_made at.functions, at.input.rest.now) (at.invariant.passed order) c.functions-test.false in
    bytes_then c.whole.result (counted_bytes (entries_made at.functions))
    (λ (l : List ℕ). LeavesParts c.args.left.now c.args.self.now.parts.items c.args.contents.end c.args.contents.rest.now l) c.whole.ensures
    (entries_made at.functions, all, refl)
