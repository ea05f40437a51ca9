use Rattle.std.proofs.Common.{ℕ, inr}
use Rattle.wasm_numbers.specs.Results.{with_fault}
use Rattle.wasm_sections.specs.declared.imports.Imported.{Imported}
use Rattle.wasm_sections.specs.Components.{with_one_import, import_step}
use Rattle.wasm_sections.specs.Format.{placed_import_part}
use Rattle.wasm_module.specs.ReadModules.{components_of, fault_at}
use Rattle.wasm_module.proofs.ReadStepLemmas.{step_after, step_before, import_is}
use Rattle.wasm_module.proofs.parsed.ParsedModule.read_import.Goals as goal

pub returns-in-Ok-clause-is : goal.returns-in-Ok-clause-is
returns-in-Ok-clause-is c =
    let before = c.args.self.now in
    let m = components_of before in
    let at = c.args.input.now in
    let after = c.add_import.new.self in
    step_after m before.spaces c.add_import.result (components_of after) after.spaces (placed_import_part at.end at.rest.now)
    (λ (x : Imported × ℕ). with_fault (fault_at x.1) (with_one_import m x.0)) (c.in-Ok.imported, c.in-Ok.place) c.import.new.self.rest.now (import_step m at.end at.rest.now)
    (import_is m at.end at.rest.now) c.in-Ok.ensures.is c.add_import.ensures

pub returns-in-Err-clause-is : goal.returns-in-Err-clause-is
returns-in-Err-clause-is c = λ so.
    let m = components_of c.args.self.now in
    let at = c.args.input.now in
    inr (step_before (placed_import_part at.end at.rest.now) (λ (x : Imported × ℕ). with_fault (fault_at x.1) (with_one_import m x.0)) (import_step m at.end at.rest.now) c.in-Err.error
    (import_is m at.end at.rest.now) c.in-Err.ensures.is)
