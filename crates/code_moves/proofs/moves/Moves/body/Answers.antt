use Rattle.std.proofs.Common.{rules, ◌≡◌, drop, ◌+◌, ◌≤◌, ◌∷◌, length, true, false, ltb, sym, ap, ◌∙◌, arith}
use Rattle.std.specs.List.Sorted.{IsPartitionPoint}
use Rattle.std.proofs.lemmas.List.{drop_all}
use Rattle.std.proofs.lemmas.Bool.{ltb-false}
use Rattle.code_moves.specs.declared.body.Body.{Body}
use Rattle.code_moves.specs.Moves.{body_with_address}
use Rattle.code_moves.proofs.Bisection.{point_before, others_from, fails_at}
use Rattle.code_moves.proofs.BodySearch.{ends_rise, body_at_passes, body_at_first, no_body_from}
use Rattle.code_moves.proofs.moves.Moves.body.Goals as goal
use Rattle.code_moves.proofs.moves.Moves.body.Goals.{After-partition_point-index, In-Some, in_default-via-in-Some+else-from-address, in_default-via-in_default}

-- the bodies that end before the address are those up to the index
point : (c : After-partition_point-index) → IsPartitionPoint (λ (b : Body). ltb b.end c.args.address ≡ true) (λ (b : Body). ltb b.end c.args.address ≡ false) c.args.self.now.bodies.items c.partition_point-index.result
point c =
    let bs = c.args.self.now.bodies.items in
    point_before (λ (b : Body). b.end) c.args.address c.deref.result.now bs c.partition_point-index.result c.deref.ensures.value
    (ends_rise 0 0 bs c.args.self.now.ordered) c.partition_point-index.ensures.partitioned (λ a r f k. search rules)

-- they don't matter
passed : (c : After-partition_point-index) → body_with_address c.args.self.now.bodies.items c.args.address ≡ body_with_address (drop c.partition_point-index.result c.args.self.now.bodies.items) c.args.address
passed c = body_at_passes c.args.self.now.bodies.items c.args.address c.partition_point-index.result (point c).0

-- the body at the index is the first of the others
others : (c : In-Some) → drop c.partition_point-index.result c.args.self.now.bodies.items ≡ c.in-Some.body.now ∷ drop (c.partition_point-index.result + 1) c.args.self.now.bodies.items
others c =
    let found = c.in-Some.ensures.lookup in
    others_from c.deref-2.result.now c.args.self.now.bodies.items c.partition_point-index.result c.in-Some.body.now c.deref-2.ensures.value found.3.0 found.1

pub returns-in-Some : goal.returns-in-Some
returns-in-Some c =
    let bs = c.args.self.now.bodies.items in
    let index = c.partition_point-index.result in
    let b = c.in-Some.body.now in
    let found = c.in-Some.ensures.lookup in
    let at = (goal.at.returns-in-Some c).After-partition_point-index in
    let within = ltb-false b.end c.args.address (fails_at (λ (e : Body). ltb e.end c.args.address ≡ false) c.deref-2.result.now bs index b c.deref-2.ensures.value found.3.0 found.1 (point at).1) in
    sym (passed at ∙ ap (λ es. body_with_address es c.args.address) (others (goal.at.returns-in-Some c).In-Some)
    ∙ body_at_first b (drop (index + 1) bs) c.args.address (omega arith) within)

pub returns-in_default : goal.returns-in_default
returns-in_default c =
    let bs = c.args.self.now.bodies.items in
    let index = c.partition_point-index.result in
    sym (passed (goal.at.returns-in_default c).After-partition_point-index
    ∙ elim c.in_default.branch [
      | in_default-via-in-Some+else-from-address w ↦
          let found = w.in-Some.ensures.lookup in
          let b = w.in-Some.body.now in
          let left = others_from c.deref-2.result.now bs index b c.deref-2.ensures.value found.3.0 found.1 in
          ap (λ es. body_with_address es c.args.address) left ∙ no_body_from 0 0 bs c.args.self.now.ordered index b (drop (index + 1) bs) left c.args.address (omega arith)
      | in_default-via-in_default w ↦
          let few : length bs ≤ index = search (arith, rules) in
          ap (λ es. body_with_address es c.args.address) (drop_all index bs few)
    ])
