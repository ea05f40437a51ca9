use Rattle.std.proofs.Common.{refl, subst, ap, ◌==◌, ◌∙◌}
use Rattle.std.specs.HashSet.{contains}
use Rattle.module_tools.specs.FunctionChanges.{TrapsIf}
use Rattle.module_tools.proofs.snipping.SnippingChangeFunction.change.Goals as goal

pub returns : goal.returns
returns c =
    let traps =
    subst (λ taken. TrapsIf taken c.args.function.now c.trap_if.new.function) (c.takes.ensures ∙ ap (contains (λ x y. x == y) c.args.self.now.0) c.new.ensures)
    c.in_ok-trap_if.ensures in
    ((traps, refl), refl)
