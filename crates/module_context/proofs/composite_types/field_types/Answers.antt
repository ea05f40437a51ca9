use Rattle.std.proofs.Common.{inr, ◌∙◌}
use Rattle.std.specs.Prelude.{map}
use Rattle.wasm_context.specs.Contexts.{field_of}
use Rattle.wasm_sections.proofs.TypeReadingLemmas.{repeated_none, next_of, vector_next, vector_fault}
use Rattle.module_context.specs.TypeSections.{field_type_part}
use Rattle.module_context.proofs.TypePartLemmas.{one_more_mapped}
use Rattle.module_context.proofs.composite_types.field_types.Goals as goal

pub returns-in-Err-field_type-clause-is : goal.returns-in-Err-field_type-clause-is
returns-in-Err-field_type-clause-is c =
    let at = c.fields in
    inr (at.invariant.is
    ∙ vector_fault field_type_part c.in-Ok.count at.counter (map field_of at.fields.items) at.input.end at.input.rest.now c.in-Err-field_type.error c.fields-test.true
    c.in-Err-field_type.ensures.is)

pub fields-preserved : goal.fields-preserved
fields-preserved c =
    let at = c.fields in
    let field = c.in-Ok-field_type.field in
    record {
      same_end = c.field_type.ensures.same_end ∙ at.invariant.same_end;
      is =
          at.invariant.is
          ∙ vector_next field_type_part c.in-Ok.count at.counter (map field_of at.fields.items) (map field_of c.push.new.self.items) (field_of field) at.input.end
          c.field_type.new.input.end at.input.rest.now c.field_type.new.input.rest.now c.fields-test.true c.in-Ok-field_type.ensures.is
          (one_more_mapped field_of at.fields.items c.push.new.self.items field c.in_ok-push-in-Ok-field_type.ensures.items) c.field_type.ensures.same_end;
    }

pub returns-clause-is : goal.returns-clause-is
returns-clause-is c =
    let at = c.fields in
    at.invariant.is ∙ repeated_none (next_of field_type_part) c.in-Ok.count at.counter (map field_of at.fields.items) at.input.end at.input.rest.now c.fields-test.false
