use Rattle.std.proofs.Common.{rules, ◌≡◌, ◌<◌, [], length, vec_len, arith, inl, sym, ◌∙◌}
use Rattle.walrus_ir.specs.Visiting.{frame}
use Rattle.std.proofs.lemmas.List.{nil_from_length}
use Rattle.std.proofs.lemmas.Option.{slice_get_within}
use Rattle.walrus_ir.proofs.Pending.{begins, some_order, next_comes, next_falls}
use Rattle.std.proofs.lemmas.Result.{err_from_is_err_and}
use Rattle.walrus_ir.proofs.Next.{frames_push}
use Rattle.walrus_ir.proofs.Stage.{stage_first, first_refused, stage_visited, stage_refused, stage_last}
use Rattle.walrus_ir.proofs.walk.dfs_in_order.Goals as goal

pub unwrap-requires : goal.unwrap-requires
unwrap-requires g c = c.split_first.ensures.variant.1 (rw c.deref.ensures.value (some_order c.in_ok-order.ensures.order))

pub seq-requires : goal.seq-requires
seq-requires g c =
    let first = rw c.unwrap.ensures at c.split_first.ensures.cases in
    slice_get_within _ _ _ (begins _ _ c.in_ok-order.ensures.order (sym c.deref.ensures.value ∙ first.0)).known

pub start_seq-requires : goal.start_seq-requires
start_seq-requires g c =
    let some : 0 < length c.in_ok-order.order.items = some_order c.in_ok-order.ensures.order in
    let many : length c.in_ok-order.order.items ≡ vec_len c.in_ok-order.order = search rules in
    let none : vec_len c.in_ok-order.stack ≡ 0 = search rules in
    omega (arith, c.in_ok-order.ensures.room)

pub returns-in_err-start_seq-clause-err : goal.returns-in_err-start_seq-clause-err
returns-in_err-start_seq-clause-err g c =
    let first = rw c.unwrap.ensures at c.split_first.ensures.cases in
    let refusal = c.in_err-start_seq.ensures.visited in
    let passed = err_from_is_err_and c.from_residual-in_err-start_seq.result c.from_residual-in_err-start_seq.ensures.1 in
    rw (passed.1, passed.2) (inl (first_refused _ _ _ _ _ c.in_ok-order.ensures.order (sym c.deref.ensures.value ∙ first.0) c.seq.ensures refusal.0 refusal.1))

pub walk-init : goal.walk-init
walk-init g c =
    let first = rw c.unwrap.ensures at c.split_first.ensures.cases in
    let opened = rw c.in_ok-order.ensures.empty at c.in_ok-start_seq.ensures.opened in
    let none : vec_len c.in_ok-order.stack ≡ 0 = search rules in
    record {
      stage = stage_first _ _ _ _ _ c.in_ok-order.ensures.order (sym c.deref.ensures.value ∙ first.0) c.seq.ensures c.in_ok-start_seq.ensures.visited opened;
      room = omega (arith, first.1, c.deref.ensures.len, c.in_ok-order.ensures.room, c.in_ok-start_seq.ensures.len, c.in_ok-start_seq.ensures.room);
    }

pub visit_next-requires-clause-comes : goal.visit_next-requires-clause-comes
visit_next-requires-clause-comes g c =
    let stage = rw (c.in-Some.ensures.items, frames_push) at c.walk.invariant.stage in
    λ some. (next_comes _ (frame c.in-Some.top) _ _ _ stage.pending some).0

pub visit_next-requires-clause-known : goal.visit_next-requires-clause-known
visit_next-requires-clause-known g c =
    let stage = rw (c.in-Some.ensures.items, frames_push) at c.walk.invariant.stage in
    λ some. (next_comes _ (frame c.in-Some.top) _ _ _ stage.pending some).1

pub returns-in_err-coming-clause-err : goal.returns-in_err-coming-clause-err
returns-in_err-coming-clause-err g c =
    let stage = rw (c.in-Some.ensures.items, frames_push) at c.walk.invariant.stage in
    let passed = err_from_is_err_and c.from_residual-in_err-coming.result c.from_residual-in_err-coming.ensures.1 in
    rw (passed.1, passed.2) (inl (stage_refused _ _ _ _ _ stage c.in_err-coming.ensures.visited))

pub walk-smaller : goal.walk-smaller
walk-smaller g c =
    let visited = c.in_ok-coming.ensures.visited in
    rw (c.in-Some.ensures.items, frames_push, visited.stack) (next_falls _ visited.next)

pub walk-preserved : goal.walk-preserved
walk-preserved g c =
    let stage = rw (c.in-Some.ensures.items, frames_push) at c.walk.invariant.stage in
    record { stage = stage_visited _ _ _ _ _ stage c.in_ok-coming.ensures.visited; room = c.in_ok-coming.ensures.room }

pub returns-clause-ok : goal.returns-clause-ok
returns-clause-ok g c =
    let counted : length c.walk.stack.items ≡ vec_len c.walk.stack = search rules in
    let none : c.walk.stack.items ≡ [] = nil_from_length c.walk.stack.items (counted ∙ c.in_default.ensures.cases.0) in
    stage_last _ _ _ _ _ {w = c.walk.visitor} (rw none at c.walk.invariant.stage)
