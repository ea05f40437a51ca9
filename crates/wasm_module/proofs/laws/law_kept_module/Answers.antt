use Rattle.wasm_module.proofs.WriterLemmas.{kept_module_as, kept_code_as, kept_module_with}
use Rattle.wasm_module.proofs.laws.law_kept_module.Goals as goal

pub returns-clause-module : goal.returns-clause-module
returns-clause-module g c = λ source now kept changes omitted new x every before w.
    kept_module_as (g.B.BodyWriter.writes c.args.bodies.now) source now kept x every before changes omitted new w

pub returns-clause-code : goal.returns-clause-code
returns-clause-code g c = λ source now kept s code x every before w.
    kept_code_as (g.B.BodyWriter.writes c.args.bodies.now) source now kept x every before s code w

pub returns-clause-pairs : goal.returns-clause-pairs
returns-clause-pairs g c = λ source now kept changes omitted new x every before w.
    kept_module_with (g.B.BodyWriter.writes c.args.bodies.now) source now kept x every before changes omitted new w
