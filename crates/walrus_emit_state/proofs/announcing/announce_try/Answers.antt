use Rattle.std.proofs.Common.{◌≡◌, length, ap, ◌∙◌, arith}
use Rattle.walrus_emit_state.specs.TreeWriting.ScopeLists.{ScopeLists}
use Rattle.walrus_emit_state.proofs.TreeWriting.Announcing.{nothing_left, remains, try_missing, try_announced_so}
use Rattle.walrus_emit_state.proofs.announcing.announce_try.Goals as goal

pub returns-in-Err-clause-err : goal.returns-in-Err-clause-err
returns-in-Err-clause-err c =
    try_missing c.args.builder.now.sequences c.args.construct.now.seq c.args.construct.now.catches c.clauses.left.now
    c.in-Some.before.now c.in-Some.clause.now c.args.scopes.now c.clauses.scopes c.clauses.closer c.in-Err.fault
    c.requires.lawful c.in-Some.ensures.cases.0 c.clauses.invariant.remaining c.in-Err.ensures.err

pub clauses-preserved : goal.clauses-preserved
clauses-preserved c =
    let announced = c.in_default-announce_handler.ensures.ok in record {
      known = ap (λ (s : ScopeLists). s.count) announced.are_first ∙ c.clauses.invariant.known;
      remaining = remains c.args.builder.now.sequences c.args.construct.now.catches c.clauses.left.now c.in-Some.before.now
          c.in-Some.clause.now c.args.scopes.now c.clauses.scopes c.announce_handler.new.scopes c.clauses.closer
          c.closer_before-closer.result c.requires.lawful c.in-Some.ensures.cases.0 c.clauses.invariant.remaining
          announced c.closer_before-closer.ensures;
    }

pub returns-clause-ok : goal.returns-clause-ok
returns-clause-ok c =
    let none : length c.clauses.left.now ≡ 0 = omega (arith, c.in_default.ensures.cases) in
    try_announced_so c.args.builder.now.sequences c.args.construct.now.seq c.args.construct.now.catches c.clauses.left.now
    c.args.scopes.now c.clauses.scopes c.announce_one.new.scopes c.clauses.closer c.announce_one.result
    (nothing_left c.clauses.left.now none) c.clauses.invariant.remaining (rw (← c.construct.view_is) c.announce_one.ensures.ok)
