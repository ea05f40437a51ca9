use Rattle.std.proofs.Common.{List, ℕ, Ok, refl, ap, ◌∙◌}
use Rattle.wasm_sections.specs.Format.{export_part}
use Rattle.wasm_sections.specs.Parts.{just}
use Rattle.wasm_sections.specs.References.{exported_function, export_references}
use Rattle.wasm_sections.specs.Views.{export_value}
use Rattle.wasm_sections.proofs.ReferenceLemmas.{adds_one, adds_nothing, adds_no_first, then_is, exports_one, exports_none}
use Rattle.wasm_sections.proofs.input.Input.add_export.Goals as goal

pub returns-in-Err-clause-is : goal.returns-in-Err-clause-is
returns-in-Err-clause-is c =
    adds_no_first export_part (λ x. just (exported_function x.1 x.2)) c.args.self.now.end c.args.self.now.rest.now c.args.found.now.items
    c.args.found.now.items c.read_export.new.self.rest.now c.in-Err.error c.in-Err.ensures.is

pub returns-in-Funcs-clause-is : goal.returns-in-Funcs-clause-is
returns-in-Funcs-clause-is c =
    let end = c.args.self.now.end in
    let text = c.args.self.now.rest.now in
    let rest = c.read_export.new.self.rest.now in
    let export = c.in-Ok.export in
    let is = then_is export_part (λ x. just (exported_function x.1 x.2)) end text end (export_value export) rest c.in-Ok.ensures.is refl in
    adds_one c.args.found.now.items c.add.new.found.items rest export.index c.add.result (export_references end text)
    (is ∙ ap (λ (l : List ℕ). Ok (l, rest)) (exports_one export.space export.index c.in-Funcs.is)) c.add.ensures.ok c.add.ensures.err

pub returns-in_default-clause-is : goal.returns-in_default-clause-is
returns-in_default-clause-is c =
    let end = c.args.self.now.end in
    let text = c.args.self.now.rest.now in
    let rest = c.read_export.new.self.rest.now in
    let export = c.in-Ok.export in
    let is = then_is export_part (λ x. just (exported_function x.1 x.2)) end text end (export_value export) rest c.in-Ok.ensures.is refl in
    adds_nothing c.args.found.now.items rest (export_references end text)
    (is ∙ ap (λ (l : List ℕ). Ok (l, rest)) (exports_none export.space export.index c.in_default.not-Funcs))
