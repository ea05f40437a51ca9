use Rattle.std.proofs.Common.{◌≡◌, refl, sym, ◌∙◌, rules}
use Rattle.source_map.specs.Reading.{mappings_at, mappings_left}
use Rattle.source_map.proofs.MovingTexts.{begins_moving, never_refused}
use Rattle.source_map.proofs.moving_text.MovingSourceMap.new.Goals as goal

pub returns-in_err-next-clause-memory : goal.returns-in_err-next-clause-memory
returns-in_err-next-clause-memory c = λ all spells.
    let text = c.args.map.now.mappings.items in
    let of : mappings_left c.of-segments.result ≡ mappings_at text = search rules in
    absurd (never_refused all text c.in_err-next.field-0.0 spells (sym of ∙ c.in_err-next.ensures.refused))

pub returns-clause-none : goal.returns-clause-none
returns-clause-none c = λ all spells.
    let text = c.args.map.now.mappings.items in
    let of : mappings_left c.of-segments.result ≡ mappings_at text = search rules in
    begins_moving all _ text spells (sym of ∙ c.in_ok-next.ensures.read) refl (search rules)
