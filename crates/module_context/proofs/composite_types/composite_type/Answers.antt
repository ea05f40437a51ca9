use Rattle.std.proofs.Common.{inr, refl, ◌∙◌, Ok}
use Rattle.wasm_typing.specs.Contexts.{Array}
use Rattle.wasm_sections.specs.Format.{composite_byte}
use Rattle.wasm_sections.proofs.TypeReadingLemmas.{first_fails}
use Rattle.module_context.specs.TypeSections.{field_type_part, composite_type_after}
use Rattle.module_context.proofs.TypePartLemmas.{byte_first}
use Rattle.module_context.proofs.composite_types.composite_type.Goals as goal

pub returns-in-Err-field_type-clause-is : goal.returns-in-Err-field_type-clause-is
returns-in-Err-field_type-clause-is c =
    let before = c.args.input.now in
    let new = c.byte.new.self in
    let a = c.in-Ok-eq94 in
    inr (byte_first composite_byte composite_type_after before.end new.end a.field-0 94 before.rest.now new.rest.now a.ensures.is a.field-0-test refl c.byte.ensures.same_end
    ∙ first_fails (field_type_part new.end new.rest.now) (λ f. Ok (Array f.0, f.1)) c.in-Err-field_type.error c.in-Err-field_type.ensures.is)
