use Rattle.std.proofs.Common.{ap, ◌∙◌}
use Rattle.wasm_sections.specs.Components.{module_of}
use Rattle.wasm_module.specs.ReadModules.{components_of}
use Rattle.wasm_module.proofs.SameFunctionLemmas.{same_functions}
use Rattle.wasm_module.proofs.WrittenBodyLemmas.{written_bodies}
use Rattle.wasm_module.proofs.WrittenSectionLemmas.{written_sections}
use Rattle.wasm_module.proofs.laws_sections.law_written_functions.Goals as goal

pub returns-clause-bodies : goal.returns-clause-bodies
returns-clause-bodies g c = λ source bytes new code changes omitted m p has_code w reads.
    written_bodies (g.B.BodyWriter.writes c.args.bodies.now) source changes omitted code new m (ap module_of p.bytes_are ∙ p.spells) has_code w reads

pub returns-clause-functions : goal.returns-clause-functions
returns-clause-functions g c = λ source bytes new changes omitted m p w reads none.
    let writes = g.B.BodyWriter.writes c.args.bodies.now in
    same_functions writes source changes omitted new (written_sections writes source changes omitted new w) (components_of source) m (ap module_of p.bytes_are ∙ p.spells) reads none
