use Rattle.wasm_module.proofs.body_writer.BodyWriter.measure_large_body.Goals as goal

pub returns-clause-measured : goal.returns-clause-measured
returns-clause-measured g c = λ source e.
    let made = c.in_ok-write_body.ensures.written source e in
    (c.write_body.new.scratch.raw.items, made.0, made.1, c.measured.ensures.len)
