use Rattle.std.proofs.Common.{◌≡◌, List, [], ◌∷◌}
use Rattle.source_map.specs.declared.mapping.Mapping.{Mapping}
use Rattle.source_map.specs.declared.moving.Move.{Move}
use Rattle.source_map.specs.MovingText.{length_to_come, MovedSoFar, HasMoved}
use Rattle.source_map.proofs.moving_text.MovingSourceMap.add.Given as goal

abbrev pub invariant-loop-self : goal.invariant-loop-self
invariant-loop-self l = (l.self.map ≡ l.fn.self.map) × ((all : List Mapping) (moves : List Move) → HasMoved all moves l.fn.self → MovedSoFar (l.step ∷ []) all moves l.self)

abbrev pub decreases-loop-self : goal.decreases-loop-self
decreases-loop-self l = length_to_come l.self
