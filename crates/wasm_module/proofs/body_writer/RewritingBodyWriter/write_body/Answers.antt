use Rattle.std.proofs.Common.{refl}
use Rattle.wasm_sections.specs.CodeSections.{body_at}
use Rattle.wasm_body.specs.Pairs.{Pair}
use Rattle.std.specs.Prelude.{List}
use Rattle.wasm_module.proofs.RewritingLemmas.{rewritten_then, with_its_pairs, rewritten_with_then, parsed_then, not_wanted}
use Rattle.wasm_module.proofs.body_writer.RewritingBodyWriter.write_body.Goals as goal

pub returns-in-Ok-clause-written : goal.returns-in-Ok-clause-written
returns-in-Ok-clause-written c = λ source e.
    let b = body_at c.args.body in
    let raw = c.rewrite_flat.new.scratch.raw.items in
    let r = rewritten_then source c.args.parsed.now c.args.body.func b raw e c.in-Ok.ensures.rewritten in
    (r.pairs, with_its_pairs source c.args.body.func b raw r, λ wanted. absurd (not_wanted c.args.needed c.in-Nothing.is wanted))

pub returns-in-Ok-rewrite_flat_with_pairs-clause-written : goal.returns-in-Ok-rewrite_flat_with_pairs-clause-written
returns-in-Ok-rewrite_flat_with_pairs-clause-written c = λ source e.
    let pairs = c.rewrite_flat_with_pairs.new.scratch.pairs.items in
    let made = c.in-Ok-rewrite_flat_with_pairs.ensures.rewritten in
    (pairs, rewritten_with_then source c.args.parsed.now c.args.body.func (body_at c.args.body) c.rewrite_flat_with_pairs.new.scratch.raw.items pairs e made, λ wanted. refl {A = List Pair})

pub returns-in-Ok-rewrite_with_pairs-clause-written : goal.returns-in-Ok-rewrite_with_pairs-clause-written
returns-in-Ok-rewrite_with_pairs-clause-written c = λ source e.
    let pairs = c.rewrite_with_pairs.new.scratch.pairs.items in
    let made = c.in-Ok-rewrite_with_pairs.ensures.rewritten in
    (pairs, rewritten_with_then source c.args.parsed.now c.args.body.func (body_at c.args.body) c.rewrite_with_pairs.new.scratch.raw.items pairs e made, λ wanted. refl {A = List Pair})

pub returns-in-Ok-rewrite_with_pairs-clause-function : goal.returns-in-Ok-rewrite_with_pairs-clause-function
returns-in-Ok-rewrite_with_pairs-clause-function c = λ source e.
    let now = c.rewrite_with_pairs.new.self in
    (now, parsed_then source c.args.parsed.now now c.args.body.func (body_at c.args.body) c.in-Ok-rewrite_with_pairs.function e c.in-Ok-rewrite_with_pairs.ensures.parsed)
