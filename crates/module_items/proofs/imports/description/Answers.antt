use Rattle.std.proofs.Common.{ℕ, List, Ok, sym, ap, ◌∙◌}
use Rattle.wasm_sections.specs.Format.{name_part}
use Rattle.module_items.proofs.DescriptionLemmas.{description_read, description_fails}
use Rattle.module_items.proofs.imports.description.Goals as goal

pub returns-in-Ok-import-clause-is : goal.returns-in-Ok-import-clause-is
returns-in-Ok-import-clause-is c =
    description_read c.args.input.now.end c.args.input.now.rest.now c.name.new.self.rest.now c.name-2.new.self.rest.now
    c.in-Ok.field-0.now c.in-Ok-name.field-0.now c.in-Ok.ensures.is
    (ap (λ (n : ℕ). name_part n c.name.new.self.rest.now) (sym c.in-Ok.ensures.same_end) ∙ c.in-Ok-name.ensures.is)
    c.import.new.self.rest.now c.in-Ok-import.field-0 c.in-Ok-import.ensures.is
    ∙ ap (λ (l : List ℕ). Ok (l, c.import.new.self.rest.now)) (sym c.until.ensures)

pub returns-in-Err-import-clause-is : goal.returns-in-Err-import-clause-is
returns-in-Err-import-clause-is c =
    description_fails c.args.input.now.end c.args.input.now.rest.now c.name.new.self.rest.now c.name-2.new.self.rest.now
    c.in-Ok.field-0.now c.in-Ok-name.field-0.now c.in-Ok.ensures.is
    (ap (λ (n : ℕ). name_part n c.name.new.self.rest.now) (sym c.in-Ok.ensures.same_end) ∙ c.in-Ok-name.ensures.is)
    c.in-Err-import.error c.in-Err-import.ensures.is
