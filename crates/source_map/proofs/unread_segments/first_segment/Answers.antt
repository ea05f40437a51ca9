use Rattle.std.proofs.Common.{◌+◌}
use Rattle.std.proofs.lemmas.List.{take_rest}
use Rattle.source_map.proofs.Loops.{no_comma, first_comma}
use Rattle.source_map.proofs.unread_segments.first_segment.Goals as goal

pub returns-then-byte-eq44-clause-parts : goal.returns-then-byte-eq44-clause-parts
returns-then-byte-eq44-clause-parts c =
    let text = c.args.text.now in
    let at = c.loop-at.at in
    rw (take_rest text (at + 1)) (first_comma text at c.loop-at-test.true c.if-byte-eq44.true c.loop-at.invariant)

pub returns-clause-parts : goal.returns-clause-parts
returns-clause-parts c = no_comma c.args.text.now c.loop-at.at c.loop-at-test.false c.loop-at.invariant
