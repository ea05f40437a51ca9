use Rattle.std.proofs.Common.{ltb, sym, ap, ◌∙◌, rules}
use Rattle.std.proofs.lemmas.List.Sorted.{IsPartitionPoint-from_clause, IsPartitionedBy-ltb}
use Rattle.source_map.specs.declared.moving.Move.{Move}
use Rattle.source_map.specs.Moving.{in_body}
use Rattle.source_map.proofs.Moves.{kept_at, none_kept, in_its_body, in_other_body}
use Rattle.source_map.proofs.moving.new_place.Goals as goal

pub returns-in-Some : goal.returns-in-Some
returns-in-Some c = λ up.
    let moves = c.args.moves.now in
    let place = c.args.place in
    let at = c.partition_point-at.result in
    let point = IsPartitionPoint-from_clause (λ (m : Move). ltb m.old place) moves at c.partition_point-at.ensures.partitioned (IsPartitionedBy-ltb (λ (m : Move). m.old) moves place up) (λ a r f k. search rules) in
    let found = c.in-Some.ensures.lookup in
    let kept = kept_at moves place at c.in-Some.step.now point.0 point.1 found.3.0 found.1 in
    sym (ap (in_body place) kept ∙ in_its_body place c.in-Some.step.now c.if-step-place.true)

pub returns-in_default : goal.returns-in_default
returns-in_default c = λ up.
    let moves = c.args.moves.now in
    let place = c.args.place in
    let at = c.partition_point-at.result in
    let point = IsPartitionPoint-from_clause (λ (m : Move). ltb m.old place) moves at c.partition_point-at.ensures.partitioned (IsPartitionedBy-ltb (λ (m : Move). m.old) moves place up) (λ a r f k. search rules) in
    let found = c.in-Some.ensures.lookup in
    let kept = kept_at moves place at c.in-Some.step.now point.0 point.1 found.3.0 found.1 in
    sym (ap (in_body place) kept ∙ in_other_body place c.in-Some.step.now c.if-step-place.false)

pub returns-in_default-2 : goal.returns-in_default-2
returns-in_default-2 c = λ up.
    let moves = c.args.moves.now in
    let place = c.args.place in
    let at = c.partition_point-at.result in
    let point = IsPartitionPoint-from_clause (λ (m : Move). ltb m.old place) moves at c.partition_point-at.ensures.partitioned (IsPartitionedBy-ltb (λ (m : Move). m.old) moves place up) (λ a r f k. search rules) in
    let found = rw c.in_default.is at c.get.ensures.lookup in
    let kept = none_kept moves place at point.0 found.3 in
    sym (ap (in_body place) kept)
