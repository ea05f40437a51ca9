use Rattle.std.proofs.Common.{◌≡◌, ◌++◌, drop}
use Rattle.source_map.specs.Shortest.{short_segments, spelling}
use Rattle.source_map.specs.MovingText.{after_commas}
use Rattle.source_map.proofs.writing.write_mappings.Given as goal

abbrev pub invariant-loop-mapping : goal.invariant-loop-mapping
invariant-loop-mapping l = l.out.items ++ after_commas (short_segments l.fields (drop l.mapping-index l.others)) ≡ l.fn.out.items ++ spelling l.mappings
