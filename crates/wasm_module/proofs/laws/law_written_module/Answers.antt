use Rattle.wasm_module.proofs.SameModuleLemmas.{written_same}
use Rattle.wasm_module.proofs.laws.law_written_module.Goals as goal

pub returns : goal.returns
returns g c = λ source m changes omitted new e none w.
    written_same (g.B.BodyWriter.writes c.args.bodies.now) source changes omitted none m new e w
