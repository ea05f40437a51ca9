use Rattle.std.proofs.Common.{◌-◌, length, drop, length-drop, arith}
use Rattle.std.proofs.lemmas.List.{take_all}
use Rattle.walrus_numbering.proofs.LocalNumbering.{run_found}
use Rattle.walrus_numbering.proofs.local_numbers.runs.Goals as goal

pub left-preserved : goal.left-preserved
left-preserved c =
    let rest = take_all (length c.in-Some.following.now - c.leading-more.result) (drop c.leading-more.result c.in-Some.following.now) (omega (arith, length-drop c.leading-more.result c.in-Some.following.now)) in
    run_found c.args.locals.now c.left.left.now c.in-Some.following.now _ c.in-Some.field-0-0.now c.left.found.items c.push.new.self.items c.leading-more.result
    c.in-Some.ensures.cases.0 c.leading-more.ensures.count rest c.left.invariant c.in_ok-push.ensures.items
