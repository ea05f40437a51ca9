use Rattle.std.proofs.Common.{◌≡◌, ◌==◌, ◌&&◌, ◌||◌, length, refl, ap, sym, ◌∙◌, arith}
use Rattle.walrus_facts.specs.Marking.{is_marked}
use Rattle.walrus_facts.proofs.Scans.{marked_below, all_below, one_below}
use Rattle.walrus_facts.proofs.scanning.marked_set.Goals as goal

pub loop-id-preserved : goal.loop-id-preserved
loop-id-preserved c x =
    c.in_ok-put_marked.ensures x
    ∙ (ap (λ b. ((x == c.loop-id.id) && is_marked c.args.marks.now c.loop-id.id) || b) (c.loop-id.invariant x)
    ∙ sym (one_below c.args.marks.now c.loop-id.id x _ refl))

pub returns : goal.returns
returns c x =
    let last : c.loop-id.id ≡ length c.args.marks.now = omega arith in
    c.loop-id.invariant x ∙ (ap (λ n. marked_below c.args.marks.now n x) last ∙ all_below c.args.marks.now x)
