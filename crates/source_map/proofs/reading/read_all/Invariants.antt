use Rattle.std.proofs.Common.{◌≡◌}
use Rattle.source_map.specs.Reading.{mappings_at, mappings_left, length_left}
use Rattle.source_map.proofs.Loops.{with_front}
use Rattle.source_map.proofs.reading.read_all.Given as goal

abbrev pub invariant-loop-mapping : goal.invariant-loop-mapping
invariant-loop-mapping l = with_front l.mappings.items (mappings_left l.segments) ≡ mappings_at l.text

abbrev pub decreases-loop-mapping : goal.decreases-loop-mapping
decreases-loop-mapping l = length_left l.segments
