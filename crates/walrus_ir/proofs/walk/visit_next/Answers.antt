use Rattle.std.proofs.Common.{arith, refl}
use Rattle.walrus_ir.specs.Events.{through, after, refused}
use Rattle.std.proofs.lemmas.Result.{err_from_is_err_and}
use Rattle.walrus_ir.proofs.Visiting.{Folds-append, Stops_after}
use Rattle.walrus_ir.proofs.Next.{frames_push, next_visits, next_refused, next_ends}
use Rattle.walrus_ir.proofs.walk.visit_next.Goals as goal

pub returns-in_err-rest-clause-visited : goal.returns-in_err-rest-clause-visited
returns-in_err-rest-clause-visited g c =
    let refusal = c.in_err-rest.ensures.visited in
    let passed = err_from_is_err_and c.from_residual.result c.from_residual.ensures.1 in
    rw (passed.1, passed.2) (record {
      events = _;
      opened = _;
      coming' = _;
      next = next_refused _ _ _ (omega arith) refusal.stretch;
      stopped = refusal.stopped;
    })

pub returns-in_err-end_instr_seq-clause-visited : goal.returns-in_err-end_instr_seq-clause-visited
returns-in_err-end_instr_seq-clause-visited g c =
    let visited = c.in_ok-rest.ensures.visited in
    let refusal = c.in_err-end_instr_seq.ensures in
    let passed = err_from_is_err_and c.from_residual-in_err-end_instr_seq.result c.from_residual-in_err-end_instr_seq.ensures.1 in
    rw (passed.1, passed.2) (record {
      events = _;
      opened = _;
      coming' = _;
      next = next_ends _ _ _ _ (omega arith) c.if-inside-eq0.true (c.in_ok-rest.ensures.all c.if-inside-eq0.true) visited.stretch;
      stopped = Stops_after _ _ _ _ visited.visited (refused refusal.0 refusal.1);
    })

pub returns-then-inside-eq0-clause-visited : goal.returns-then-inside-eq0-clause-visited
returns-then-inside-eq0-clause-visited g c =
    let visited = c.in_ok-rest.ensures.visited in
    record {
      events = _;
      opened = _;
      next = next_ends _ _ _ _ (omega arith) c.if-inside-eq0.true (c.in_ok-rest.ensures.all c.if-inside-eq0.true) visited.stretch;
      visited = Folds-append _ g.V.Visitor.refuses g.V.Visitor.same _ visited.visited (after c.in_ok-end_instr_seq.ensures through);
      stack = refl;
    }

pub returns-clause-visited : goal.returns-clause-visited
returns-clause-visited g c =
    let visited = c.in_ok-rest.ensures.visited in
    record {
      events = _;
      opened = _;
      next = next_visits _ _ _ _ (omega arith) visited.stretch (omega arith);
      visited = visited.visited;
      stack = rw (rw c.unwrap.ensures at c.push.ensures.items, frames_push);
    }
