use Rattle.std.proofs.Common.{false, refl, sym, ap, ◌∙◌}
use Rattle.std.specs.Prelude.{◌||◌, ◌==◌, cond}
use Rattle.walrus_flat.specs.Checkers.{used_in}
use Rattle.walrus_flat.proofs.CheckerAtOnce.{same_checker, when_true, when_false}
use Rattle.walrus_flat.proofs.checker.Checker.name_local_at.Goals as goal

pub returns-in_default-clause-unchanged : goal.returns-in_default-clause-unchanged
returns-in_default-clause-unchanged c = same_checker c.args.self.now

pub returns-then-self-clause-done : goal.returns-then-self-clause-done
returns-then-self-clause-done c = record {
  id = c.in-Some.local;
  is_local = c.in-Some.ensures;
  used = λ x. ap (λ d. cond d false (x == c.in-Some.local) || used_in c.args.self.now x) (sym c.if-self.true);
  is = refl;
}

pub returns-clause-done : goal.returns-clause-done
returns-clause-done c = when_true c.add.result (λ added. record {
  id = c.in-Some.local;
  is_local = c.in-Some.ensures;
  used = λ x. c.add.ensures.done added x ∙ ap (λ d. cond d false (x == c.in-Some.local) || used_in c.args.self.now x) (sym c.if-self.false);
  is = refl;
})

pub returns-clause-unchanged : goal.returns-clause-unchanged
returns-clause-unchanged c = when_false c.add.result (λ none. record { used = c.add.ensures.unchanged none; is = refl })
