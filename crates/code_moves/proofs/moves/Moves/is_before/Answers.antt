use Rattle.std.proofs.Common.{◌≡◌, suc, ◌-◌, length, Some, sym, subst, arith}
use Rattle.std.specs.Prelude.{slice_get}
use Rattle.std.proofs.lemmas.Bool.{ltb-true, lt-ltb}
use Rattle.std.proofs.lemmas.Option.{slice_get_within}
use Rattle.code_moves.proofs.BodySearch.{ordered_more, last_before}
use Rattle.code_moves.proofs.moves.Moves.is_before.Goals as goal
use Rattle.code_moves.proofs.moves.Moves.is_before.Goals.{In-Some}

-- the last of the bodies
last : (c : In-Some) → slice_get c.args.self.now.bodies.items (length c.args.self.now.bodies.items - 1) ≡ Some c.in-Some.last.now
last c = sym (subst (λ bs. Some c.in-Some.last.now ≡ slice_get bs (length bs - 1)) c.deref.ensures.value c.in-Some.ensures.value)

pub returns-then-last-body : goal.returns-then-last-body
returns-then-last-body c =
    let bs = c.args.self.now.bodies.items in
    let is = last (goal.at.returns-then-last-body c).In-Some in
    let some = slice_get_within bs (length bs - 1) c.in-Some.last.now is in
    let count : suc (length bs - 1) ≡ length bs = omega arith in (
      λ after. ordered_more 0 0 bs c.args.self.now.ordered (length bs - 1) c.in-Some.last.now c.args.body.now count is (omega arith) (ltb-true c.in-Some.last.now.new_end c.args.body.now.new_begin after),
      λ ordered. lt-ltb c.in-Some.last.now.new_end c.args.body.now.new_begin (last_before 0 0 bs (length bs - 1) c.in-Some.last.now c.args.body.now count is ordered).1,
    )

pub returns-else-last-body : goal.returns-else-last-body
returns-else-last-body c =
    let bs = c.args.self.now.bodies.items in
    let is = last (goal.at.returns-else-last-body c).In-Some in
    let some = slice_get_within bs (length bs - 1) c.in-Some.last.now is in
    let count : suc (length bs - 1) ≡ length bs = omega arith in (
      λ after. let before = ltb-true c.in-Some.last.now.end c.args.body.now.begin after in absurd (omega arith),
      λ ordered. lt-ltb c.in-Some.last.now.end c.args.body.now.begin (last_before 0 0 bs (length bs - 1) c.in-Some.last.now c.args.body.now count is ordered).0,
    )
