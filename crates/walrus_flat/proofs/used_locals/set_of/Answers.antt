use Rattle.std.proofs.Common.{◌||◌, ap, sym, ◌∙◌}
use Rattle.std.proofs.Math.Bool.{or-false}
use Rattle.std.proofs.lemmas.Map.Iter.{rest_more}
use Rattle.std.specs.Map.Iter.{deref}
use Rattle.walrus_ir.specs.Unfolding.{among}
use Rattle.walrus_flat.proofs.CheckedOperators.{put_one}
use Rattle.walrus_flat.proofs.UsedLocals.{one_moved}
use Rattle.walrus_flat.proofs.used_locals.set_of.Goals as goal

pub loop-id-init : goal.loop-id-init
loop-id-init c = (tt, tt, λ x. ap (λ ks. among x ks || among x c.into_iter-id-iterator.result) c.new-all.ensures.empty ∙ ap (among x) c.into_iter-id-iterator.ensures.into_iter_gives.0)

pub loop-id-preserved : goal.loop-id-preserved
loop-id-preserved c =
    let first = rest_more deref c.loop-id.id-iterator c.next.new.self c.next.result c.in-Some.id c.in-Some.is c.next.ensures.steps in (
      tt,
      tt,
      λ x. one_moved x c.in-Some.id.now c.next.new.self c.loop-id.id-iterator c.loop-id.all c.insert.new.self first
          (put_one c.loop-id.all c.insert.new.self c.in-Some.id.now x (c.in_ok-insert.ensures.updates.0 x))
          ∙ c.loop-id.invariant.2 x,
    )

pub returns : goal.returns
returns c x =
    sym (or-false (among x c.loop-id.all.keys))
    ∙ (ap (λ ids. among x c.loop-id.all.keys || among x ids) (sym c.in-None.ensures.steps.0) ∙ c.loop-id.invariant.2 x)
