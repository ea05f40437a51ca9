use Rattle.std.proofs.Common.{◌≡◌, [], ◌∷◌, ◌++◌, subst}
use Rattle.source_map.specs.Reading.{mappings_at, mappings_left, before_others}
use Rattle.source_map.proofs.Loops.{goes_on}
use Rattle.source_map.proofs.unread_segments.check.Goals as goal

pub loop-mapping-preserved : goal.loop-mapping-preserved
loop-mapping-preserved c =
    let old = mappings_left c.loop-mapping.segments in
    let new = mappings_left c.read.new.self in
    let read = subst (λ found. old ≡ before_others found new) c.in-Ok-Some.field-0-is c.in-Ok-Some.ensures.read in
    (c.loop-mapping.invariant.0 ++ c.in-Ok-Some._mapping ∷ [], goes_on c.loop-mapping.invariant.0 c.in-Ok-Some._mapping old new (mappings_at c.args.text.now) read c.loop-mapping.invariant.1)
