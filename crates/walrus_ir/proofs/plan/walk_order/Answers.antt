use Rattle.std.proofs.Common.{[], ap, ◌∙◌, ◌≡◌, false, length, replicate, rules, vec_len}
use Rattle.std.proofs.lemmas.List.{nil_from_length}
use Rattle.walrus_ir.specs.Planning.{work}
use Rattle.std.proofs.lemmas.Result.{err_from_is_err_and}
use Rattle.walrus_ir.proofs.Tasks.{work_push}
use Rattle.walrus_ir.proofs.Marks.{all_unmarked}
use Rattle.walrus_ir.proofs.Planning.{reached_first, reached_last, popped, done_reached, done_falls, not_done}
use Rattle.walrus_ir.proofs.plan.walk_order.Goals as goal

pub walk-init : goal.walk-init
walk-init c =
    let k : length c.in_ok-reached.reached.items ≡ vec_len c.in_ok-reached.reached = search rules in
    let m : c.in_ok-reached.reached.items ≡ replicate c.count.result false = c.in_ok-reached.ensures.items_if_clones_equal (λ y e. e) in
    let l : length c.in_ok-reached.reached.items ≡ length c.args.builder.now.sequences = k ∙ (c.in_ok-reached.ensures.len ∙ c.count.ensures) in
    rw (c.in_ok-push.ensures.items, c.new-tasks.ensures.items, c.new-order.ensures.items, c.index.ensures)
    (reached_first c.args.builder.now.sequences c.args.start c.in_ok-reached.reached.items l (all_unmarked c.count.result c.in_ok-reached.reached.items m))

pub walk-smaller : goal.walk-smaller
walk-smaller c =
    let taken = ap work c.in-Some.ensures.items ∙ work_push c.pop.new.self.items c.in-Some.task in
    rw taken (done_falls c.in-Some.task _ _ c.in_ok-advance.ensures (popped c.walk.plan.tasks.items c.in-Some.task c.pop.new.self.items c.walk.invariant c.in-Some.ensures.items))

pub walk-preserved : goal.walk-preserved
walk-preserved c = done_reached c.in-Some.task _ _ c.in_ok-advance.ensures (popped c.walk.plan.tasks.items c.in-Some.task c.pop.new.self.items c.walk.invariant c.in-Some.ensures.items)

pub returns-in_err-advance : goal.returns-in_err-advance
returns-in_err-advance c =
    let passed = err_from_is_err_and c.from_residual-in_err-advance.result c.from_residual-in_err-advance.ensures.1 in
    rw (passed.1, passed.2) (not_done c.in-Some.task c.pop.new.self.items _ (popped c.walk.plan.tasks.items c.in-Some.task c.pop.new.self.items c.walk.invariant c.in-Some.ensures.items) c.in_err-advance.ensures)

pub returns : goal.returns
returns c =
    let counted : length c.walk.plan.tasks.items ≡ vec_len c.walk.plan.tasks = search rules in
    let none : c.walk.plan.tasks.items ≡ [] = nil_from_length c.walk.plan.tasks.items (counted ∙ c.in_default.ensures.cases.0) in
    reached_last (rw none at c.walk.invariant)
