use Rattle.std.proofs.Common.{List, ℕ, Ok, Err, sym, ap, ◌∙◌}
use Rattle.wasm_sections.specs.declared.fault.ModuleError.{ModuleError}
use Rattle.wasm_sections.proofs.PartLemmas.{is_name, is_no_name}
use Rattle.wasm_sections.proofs.input.Input.name.Goals as goal

pub returns-in-Ok-clause-is : goal.returns-in-Ok-clause-is
returns-in-Ok-clause-is c =
    let text = c.in-Ok.ensures.cases in
    let rest = c.bytes.new.self.rest.now in
    is_name c.args.self.now.end c.args.self.now.rest.now c.in_ok-bytes.field-0.now rest c.in_ok-bytes.ensures.is text.1
    ∙ ap (λ (l : List ℕ). Ok (l, rest)) (sym text.0)

pub returns-in-Err-clause-is : goal.returns-in-Err-clause-is
returns-in-Err-clause-is c =
    is_no_name c.args.self.now.end c.args.self.now.rest.now c.in_ok-bytes.field-0.now c.bytes.new.self.rest.now c.in_ok-bytes.ensures.is c.in-Err.ensures.cases.0
    ∙ ap (λ (e : ModuleError). Err e) (sym c.fault.ensures)
