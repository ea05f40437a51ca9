use Rattle.std.proofs.Common.{◌≡◌, ◌&&◌, ◌==◌, not, ap, subst, refl, ◌∙◌, length, arith}
use Rattle.walrus_facts.specs.Marking.{is_marked}
use Rattle.walrus_flat.proofs.UsedLocals.{one_cleared, all_cleared}
use Rattle.walrus_flat.proofs.used_locals.clear_marks.Goals as goal

pub left-init : goal.left-init
left-init c x = refl

pub left-preserved : goal.left-preserved
left-preserved c x =
    let old = c.left.marks.items in
    let new = c.unmark.new.marks.items in
    let taken = subst (λ k. is_marked new x ≡ (is_marked old x && not (x == k))) c.index.ensures (c.unmark.ensures x) in
    one_cleared x c.in-Some.id.now c.in-Some.following.now c.left.left.now old new c.in-Some.ensures.cases.0 taken ∙ c.left.invariant x

pub left-smaller : goal.left-smaller
left-smaller c = omega (arith, ap length c.in-Some.ensures.cases.0)

pub returns : goal.returns
returns c x = all_cleared x c.left.left.now c.left.marks.items c.in_default.ensures.cases ∙ c.left.invariant x
