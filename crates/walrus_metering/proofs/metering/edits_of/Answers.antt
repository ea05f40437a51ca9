use Rattle.std.proofs.Common.{◌≡◌, length, arith}
use Rattle.walrus_metering.proofs.Steps.{all_said}
use Rattle.walrus_metering.proofs.metering.edits_of.Goals as goal

pub returns : goal.returns
returns c =
    let at = c.places in
    let none : length at.left.now ≡ 0 = omega (arith, c.in_default.ensures.cases) in
    all_said c.args.costs.now c.args.charge.now c.args.instrs.now at.edits.items at.goes_on at.left.now none at.invariant
