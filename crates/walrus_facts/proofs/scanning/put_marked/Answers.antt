use Rattle.std.proofs.Common.{◌≡◌, true, false, rules}
use Rattle.walrus_facts.specs.Marking.{is_marked}
use Rattle.walrus_facts.proofs.Collecting.{put_one}
use Rattle.walrus_facts.proofs.Scans.{not_marked, is_put}
use Rattle.walrus_facts.proofs.scanning.put_marked.Goals as goal

pub returns-then-not-is_marked : goal.returns-then-not-is_marked
returns-then-not-is_marked c x =
    let none : is_marked c.args.marks.now c.args.id ≡ false = search rules in
    not_marked c.args.marks.now c.args.id x _ none

pub returns : goal.returns
returns c x =
    let marked : is_marked c.args.marks.now c.args.id ≡ true = search rules in
    is_put c.args.marks.now c.args.id x _ _ marked (put_one c.args.set.now c.insert.new.self c.args.id x (rw c.new.ensures at (c.in_ok-insert.ensures.updates.0 x)))
