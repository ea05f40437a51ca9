use Rattle.std.proofs.Common.{◌≡◌, ◌+◌, ◌∷◌, ◌++◌, None, get_or, drop, ap, ◌∙◌, add-one, drop-cons}
use Rattle.source_map.specs.declared.mapping.Mapping.{Mapping}
use Rattle.source_map.proofs.Moves.{one_moved, one_gone}
use Rattle.source_map.proofs.moving.moved.Goals as goal
use Rattle.source_map.proofs.moving.moved.Goals.{in-Some+in_ok-push, in_default}

pub loop-mapping-preserved : goal.loop-mapping-preserved
loop-mapping-preserved c = λ up.
    let moves = c.args.moves.now in
    let index = c.loop-mapping.mapping-index in
    let none : Mapping = record { generated = 0; original = None } in
    let item = get_or c.args.mappings.now index none in
    let first : drop index c.args.mappings.now ≡ item ∷ drop (index + 1) c.args.mappings.now = rw add-one (drop-cons c.args.mappings.now index none c.loop-mapping-test.true) in
    let so_far = rw first at (c.loop-mapping.invariant up) in
    elim c.match-new_place.branch [
      | in-Some+in_ok-push w ↦
          rw (w.moved-is, w.in_ok-push.ensures.items)
          (one_moved c.loop-mapping.moved.items moves item w.in-Some.generated (drop (index + 1) c.args.mappings.now) (w.in-Some.ensures up) ∙ so_far)
      | in_default w ↦
          rw w.moved-is (ap (λ ms. c.loop-mapping.moved.items ++ ms) (one_gone moves item (drop (index + 1) c.args.mappings.now) (w.in_default.ensures up)) ∙ so_far)
    ]
