use Rattle.std.proofs.Common.{◌<◌, ◌^◌, List, length, get_or, ap, ◌∙◌, arith}
use Rattle.wasm_operators.specs.declared.types.Space.TheVariants.{Funcs}
use Rattle.module_removal.specs.declared.declared.Named.{Named}
use Rattle.module_removal.specs.ItemNumbers.{first_number}
use Rattle.module_removal.proofs.DeclaringLemmas.{mark_at_sum, one_more_undeclared}
use Rattle.module_removal.proofs.declared.Taken.undeclared.Goals as goal

pub bodies-preserved : goal.bodies-preserved
bodies-preserved c =
    let at = c.bodies in
    let none : Named = record { by = 0; func = 0 } in
    let items = c.deref-named-items.result.now in
    let n : Named = get_or items at.named-index none in
    let marks = c.args.marks.now in
    let short : length marks < 2 ^ 64 = omega arith in
    one_more_undeclared c.args.counts.now at.named-index c.args.self.now.in_bodies.items c.args.self.now.outside.items marks at.declared.items c.add_once.new.declared.items
    at.undeclared.items c.add_once.new.undeclared.items n none at.invariant (omega (arith, ap length c.deref-named-items.ensures.value))
    (ap (λ (l : List Named). get_or l at.named-index none) c.deref-named-items.ensures.value) c.is_set.result
    (c.is_set.ensures
    ∙ mark_at_sum marks (first_number c.args.counts.now Funcs) c.first-first.result n.by c.saturating_add-by.result short c.first-first.ensures c.saturating_add-by.ensures)
    c.in-Ok-add_once.ensures.marks c.in-Ok-add_once.ensures.adds
