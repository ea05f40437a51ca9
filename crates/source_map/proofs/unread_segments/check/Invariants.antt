use Rattle.std.proofs.Common.{◌≡◌, List}
use Rattle.source_map.specs.declared.mapping.Mapping.{Mapping}
use Rattle.source_map.specs.Reading.{mappings_at, mappings_left, length_left}
use Rattle.source_map.proofs.Loops.{with_front}
use Rattle.source_map.proofs.unread_segments.check.Given as goal

abbrev pub invariant-loop-mapping : goal.invariant-loop-mapping
invariant-loop-mapping l = (front : List Mapping) × (with_front front (mappings_left l.segments) ≡ mappings_at l.text)

abbrev pub decreases-loop-mapping : goal.decreases-loop-mapping
decreases-loop-mapping l = length_left l.segments
