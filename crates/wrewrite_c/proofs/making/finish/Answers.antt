use Rattle.std.proofs.Common.{ap, ◌∙◌}
use Rattle.wasm_sections.specs.declared.changes.Changes.{Changes}
use Rattle.wrewrite_c.proofs.CallLemmas.{made_new}
use Rattle.wrewrite_c.proofs.making.finish.Goals as goal

pub returns-in-Ok-clause-written : goal.returns-in-Ok-clause-written
returns-in-Ok-clause-written g c =
    let old = c.args.rewritten.now in
    let now = c.strip.new.rewritten in
    let given = ap (λ (x : Changes). x.given.items) c.strip.ensures.changes ∙ c.requires.none_given in
    made_new g.B.BodyWriter.writes old.bodies now.bodies c.args.parsed.now now.changes now.omitted c.args.wanted c.args.made.now.bytes.items
    c.write_made.new.made.bytes.items c.args.made.now.lines.items c.write_made.new.made.lines.items c.strip.ensures.bodies given c.strip.ensures.omitted c.requires.empty c.in-Ok.ensures.written
