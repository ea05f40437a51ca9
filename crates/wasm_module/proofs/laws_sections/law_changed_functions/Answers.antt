use Rattle.std.proofs.Common.{ap, ◌∙◌}
use Rattle.wasm_sections.specs.Components.{module_of}
use Rattle.wasm_module.specs.ChangedModules.{IsOneOf}
use Rattle.wasm_module.specs.ReadModules.{components_of}
use Rattle.wasm_module.proofs.ChangedBodyLemmas.{changed_bodies}
use Rattle.wasm_module.proofs.ReadAsWrittenLemmas.{read_as_written}
use Rattle.wasm_module.proofs.SameFunctionLemmas.{same_functions}
use Rattle.wasm_module.proofs.WrittenSectionLemmas.{written_sections}
use Rattle.wasm_module.proofs.laws_sections.law_changed_functions.Goals as goal

pub returns-clause-sections : goal.returns-clause-sections
returns-clause-sections g c = λ source new before after changes omitted told w.
    read_as_written (IsOneOf w.bodies w.raws w.pairs) source changes omitted new w.is_written

pub returns-clause-bodies : goal.returns-clause-bodies
returns-clause-bodies g c = λ source bytes new code before after changes omitted told m p has_code w reads.
    changed_bodies g.C.ChangeFunction.changes source before after changes omitted new told code m (ap module_of p.bytes_are ∙ p.spells) has_code w reads

pub returns-clause-functions : goal.returns-clause-functions
returns-clause-functions g c = λ source bytes new before after changes omitted told m p w reads none.
    let writes = IsOneOf w.bodies w.raws w.pairs in
    same_functions writes source changes omitted new (written_sections writes source changes omitted new w.is_written) (components_of source) m (ap module_of p.bytes_are ∙ p.spells) reads none
