use Rattle.walrus_ir.specs.Events.{through, after, refused}
use Rattle.std.proofs.lemmas.Result.{err_from_is_err_and}
use Rattle.walrus_ir.proofs.Next.{frames_push, next_starts}
use Rattle.walrus_ir.proofs.walk.start_inside.Goals as goal

pub returns-in_err-start_seq-clause-visited : goal.returns-in_err-start_seq-clause-visited
returns-in_err-start_seq-clause-visited g c =
    let first = rw c.unwrap.ensures at c.split_first.ensures.cases in
    let passed = err_from_is_err_and c.from_residual.result c.from_residual.ensures.1 in
    rw (passed.1, passed.2) (record {
      events = _;
      opened = _;
      coming' = _;
      next = next_starts _ _ _ _ _ _ _ _ c.requires.inside first.0 c.seq.ensures;
      stopped = refused c.in_err-start_seq.ensures.visited.0 c.in_err-start_seq.ensures.visited.1;
    })

pub returns-clause-visited : goal.returns-clause-visited
returns-clause-visited g c =
    let first = rw c.unwrap.ensures at c.split_first.ensures.cases in
    record {
      events = _;
      opened = _;
      next = next_starts _ _ _ _ _ _ _ _ c.requires.inside first.0 c.seq.ensures;
      visited = after c.in_ok-start_seq.ensures.visited through;
      stack = rw (c.in_ok-start_seq.ensures.opened, rw c.unwrap-2.ensures at c.push.ensures.items, frames_push);
    }
