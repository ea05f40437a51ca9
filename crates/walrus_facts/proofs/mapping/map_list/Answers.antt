use Rattle.std.proofs.Common.{◌<◌, length, arith}
use Rattle.walrus_facts.specs.Mapping.{IsCalled, IsMappedItem}
use Rattle.walrus_facts.proofs.Changes.{one_changed, all_changed}
use Rattle.walrus_facts.proofs.mapping.map_list.Goals as goal

pub loop-index-preserved : goal.loop-index-preserved
loop-index-preserved g c =
    let at = c.loop-index in
    let within : at.index < length at.items = omega (arith, at.invariant.1.0) in (
      c.map_at.ensures.callable,
      one_changed (IsMappedItem (IsCalled (goal.F-step g))) c.args.change.now c.args.items.now at.items at.change c.map_at.new.change at.index _ c.map_at.new.located within
          c.map_at.ensures.mapped at.invariant.1,
    )

pub returns-clause-mapped : goal.returns-clause-mapped
returns-clause-mapped g c =
    let at = c.loop-index in
    all_changed (IsMappedItem (IsCalled (goal.F-step g))) c.args.change.now c.args.items.now at.items at.change at.index (omega (arith, at.invariant.1.0)) at.invariant.1
