use Rattle.walrus_numbering.proofs.LocalNumbering.{other_numbered}
use Rattle.walrus_numbering.proofs.local_numbers.number_others.Goals as goal

pub loop-place-preserved : goal.loop-place-preserved
loop-place-preserved c =
    other_numbered c.args.args.now c.args.others.now c.loop-place.place c.index-others-place.result c.loop-place.numbers.entries c.insert.new.self.entries
    c.loop-place-test.true c.index-others-place.is c.in_ok-insert.ensures.updates.0 c.loop-place.invariant
