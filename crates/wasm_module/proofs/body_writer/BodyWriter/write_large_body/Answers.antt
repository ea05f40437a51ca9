use Rattle.std.proofs.Common.{◌∙◌}
use Rattle.wasm_module.proofs.body_writer.BodyWriter.write_large_body.Goals as goal

pub returns-then-take-clause-written : goal.returns-then-take-clause-written
returns-then-take-clause-written g c = λ source e.
    let made = c.in_ok-write_body.ensures.written source e in
    let scratch = c.write_body.new.scratch in
    (record { bytes = scratch.raw.items; pairs = scratch.pairs.items }, made.0, made.1, λ wanted. made.2 (c.if_pairs.ensures ∙ wanted), c.if-take.ensures.taken)
