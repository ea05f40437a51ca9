use Rattle.std.proofs.Common.{arith}
use Rattle.wasm_module.proofs.parsed.ParsedModule.measure_flat_once.Goals as goal

pub returns-in-Ok-clause-measured : goal.returns-in-Ok-clause-measured
returns-in-Ok-clause-measured c =
    let h = c.in-Ok.ensures.rewritten in
    (h.0.bytes, h.1, h.2, omega (arith, h.4))
