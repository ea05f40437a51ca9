use Rattle.wasm_module.proofs.ReadAsWrittenLemmas.{read_as_written}
use Rattle.wasm_module.proofs.laws_sections.law_written_sections.Goals as goal

pub returns : goal.returns
returns g c = λ source changes omitted new w. read_as_written (g.B.BodyWriter.writes c.args.bodies.now) source changes omitted new w
