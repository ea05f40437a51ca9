use Rattle.wasm_module.proofs.KeptPairLemmas.{stay_kept_with}
use Rattle.wasm_module.proofs.parsed.ParsedModule.measure_body.Goals as goal

pub returns-in-Ok-clause-kept : goal.returns-in-Ok-clause-kept
returns-in-Ok-clause-kept g c = λ source e.
    let made = c.in-Ok.ensures.written source e in
    let scratch = c.write_followed.new.scratch in
    stay_kept_with (g.B.BodyWriter.writes c.args.bodies.now) source c.args.keeper.now.keeping.pairs c.args.body scratch.raw.items scratch.pairs.items made.0 c.args.keeper.now.kept c.keep.new.self.kept
    c.keep.ensures.raws c.keep.ensures.pairs made.1 (λ has. made.2 (c.needed-all.ensures has))
