use Rattle.std.proofs.Common.{◌∷◌, []}
use Rattle.wasm_sections.specs.Parts.{just, number}
use Rattle.wasm_sections.specs.References.{index_references}
use Rattle.wasm_sections.proofs.ReferenceLemmas.{adds_one, adds_no_first, then_is}
use Rattle.std.proofs.Common.{refl}
use Rattle.wasm_sections.proofs.input.Input.add_index.Goals as goal

pub returns-in-Ok-clause-is : goal.returns-in-Ok-clause-is
returns-in-Ok-clause-is c =
    let end = c.args.self.now.end in
    let text = c.args.self.now.rest.now in
    let rest = c.number.new.self.rest.now in
    let index = c.in-Ok.index in
    adds_one c.args.found.now.items c.add.new.found.items rest index c.add.result (index_references end text)
    (then_is number (λ index. just (index ∷ [])) end text end index rest c.in-Ok.ensures.is refl) c.add.ensures.ok c.add.ensures.err

pub returns-in-Err-clause-is : goal.returns-in-Err-clause-is
returns-in-Err-clause-is c =
    adds_no_first number (λ index. just (index ∷ [])) c.args.self.now.end c.args.self.now.rest.now c.args.found.now.items c.args.found.now.items
    c.number.new.self.rest.now c.in-Err.error c.in-Err.ensures.is
