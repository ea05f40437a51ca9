use Rattle.std.proofs.Common.{inr, refl, ◌∙◌, Ok}
use Rattle.walrus_ir.specs.Types.{Other}
use Rattle.wasm_sections.specs.Format.{field_part, composite_after, composite_part}
use Rattle.wasm_sections.proofs.TypeReadingLemmas.{composite_starts, unless_memory_as, first_fails}
use Rattle.wasm_sections.proofs.types.TypeReader.composite_type.Goals as goal

pub returns-in-Ok-function_type-clause-is : goal.returns-in-Ok-function_type-clause-is
returns-in-Ok-function_type-clause-is c =
    let before = c.args.self.now in
    let new = c.byte.new.self in
    let a = c.in-Ok-eq96 in
    composite_starts before.limit before.input.end new.end a.field-0 96 before.input.rest.now new.rest.now a.ensures.is a.field-0-test refl c.byte.ensures.same_end
    ∙ c.in-Ok-function_type.ensures.is

pub returns-in-Err-function_type-clause-is : goal.returns-in-Err-function_type-clause-is
returns-in-Err-function_type-clause-is c =
    let before = c.args.self.now in
    let new = c.byte.new.self in
    let a = c.in-Ok-eq96 in
    unless_memory_as c.in-Err-function_type.error (composite_after before.limit 96 new.end new.rest.now) (composite_part before.limit before.input.end before.input.rest.now)
    (composite_starts before.limit before.input.end new.end a.field-0 96 before.input.rest.now new.rest.now a.ensures.is a.field-0-test refl c.byte.ensures.same_end)
    c.in-Err-function_type.ensures.is

pub returns-in-Err-field-clause-is : goal.returns-in-Err-field-clause-is
returns-in-Err-field-clause-is c =
    let before = c.args.self.now in
    let new = c.byte.new.self in
    let a = c.in-Ok-eq94 in
    inr (composite_starts before.limit before.input.end new.end a.field-0 94 before.input.rest.now new.rest.now a.ensures.is a.field-0-test refl c.byte.ensures.same_end
    ∙ first_fails (field_part before.limit new.end new.rest.now) (λ u. Ok (Other, u.1)) c.in-Err-field.error c.in-Err-field.ensures.is)
