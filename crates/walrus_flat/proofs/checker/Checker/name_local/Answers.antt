use Rattle.std.proofs.Common.{false, refl, sym, ap, ◌∙◌}
use Rattle.std.specs.Prelude.{◌||◌, ◌==◌, cond}
use Rattle.walrus_flat.specs.Checkers.{used_in}
use Rattle.walrus_flat.proofs.checker.Checker.name_local.Goals as goal

pub returns-then-self-clause-ok : goal.returns-then-self-clause-ok
returns-then-self-clause-ok c = record {
  id = c.in-Ok.id;
  is_local = sym c.in-Ok.ensures;
  used = λ x. ap (λ d. cond d false (x == c.in-Ok.id) || used_in c.args.self.now x) (sym c.if-self.true);
  is = refl;
}

pub returns-then-add-clause-ok : goal.returns-then-add-clause-ok
returns-then-add-clause-ok c = record {
  id = c.in-Ok.id;
  is_local = sym c.in-Ok.ensures;
  used = λ x. c.add.ensures.done c.if-add.true x ∙ ap (λ d. cond d false (x == c.in-Ok.id) || used_in c.args.self.now x) (sym c.if-self.false);
  is = refl;
}
