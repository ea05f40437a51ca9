use Rattle.std.proofs.Common.{◌≡◌, ◌==◌, cond, true, subst}
use Rattle.std.specs.HashSet.{contains}
use Rattle.wrewrite_c.proofs.CallLemmas.{adds_one}
use Rattle.wrewrite_c.proofs.making.add_function.Goals as goal

pub returns-in-Ok-clause-added : goal.returns-in-Ok-clause-added
returns-in-Ok-clause-added c = λ other.
    let old = c.args.functions.now in
    let now = c.insert.new.self in
    let added = adds_one old now c.new.result other (c.in-Ok.ensures.updates.0 other) in
    subst (λ i. contains (λ x y. x == y) now other ≡ cond (i == other) true (contains (λ x y. x == y) old other)) c.new.ensures added
