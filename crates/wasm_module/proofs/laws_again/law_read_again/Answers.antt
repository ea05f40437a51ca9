use Rattle.wasm_module.proofs.ReadAgainLemmas.{read_again}
use Rattle.wasm_module.proofs.laws_again.law_read_again.Goals as goal

pub returns : goal.returns
returns g c = λ source again bytes new p q s. read_again (g.B.BodyWriter.writes c.args.bodies.now) source again bytes new p q s
