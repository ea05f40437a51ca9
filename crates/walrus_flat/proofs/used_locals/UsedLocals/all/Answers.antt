use Rattle.std.proofs.Common.{◌||◌, ap, ◌∙◌, length, arith}
use Rattle.walrus_ir.specs.Unfolding.{among}
use Rattle.walrus_flat.specs.UsedLocals.{has_local}
use Rattle.walrus_flat.proofs.CheckedOperators.{put_one}
use Rattle.walrus_flat.proofs.UsedLocals.{begun, one_moved, none_left}
use Rattle.walrus_flat.proofs.used_locals.UsedLocals.all.Goals as goal

pub left-init : goal.left-init
left-init c x =
    let old = c.args.self.now in
    ap (λ ids. has_local c.in_ok-all.all x || among x ids) c.as_slice-left.ensures.value
    ∙ begun x old.listed.items old.others c.in_ok-all.all (c.in_ok-all.ensures x)

pub left-preserved : goal.left-preserved
left-preserved c x =
    let put = put_one c.left.all c.insert.new.self c.in-Some.id.now x (c.in_ok-insert.ensures.updates.0 x) in
    one_moved x c.in-Some.id.now c.in-Some.following.now c.left.left.now c.left.all c.insert.new.self c.in-Some.ensures.cases.0 put ∙ c.left.invariant x

pub left-smaller : goal.left-smaller
left-smaller c = omega (arith, ap length c.in-Some.ensures.cases.0)

pub returns : goal.returns
returns c x = none_left x c.left.left.now c.left.all c.in_default.ensures.cases ∙ c.left.invariant x
