use Rattle.std.proofs.Common.{◌∙◌, arith}
use Rattle.wasm_sections.specs.Format.{field_part}
use Rattle.wasm_sections.proofs.TypeReadingLemmas.{repeated_none, repeated_fault, passed_next}
use Rattle.wasm_sections.proofs.types.TypeReader.fields.Goals as goal

pub returns-in-Err-field-clause-is : goal.returns-in-Err-field-clause-is
returns-in-Err-field-clause-is c =
    let at = c.fields in
    at.invariant.is
    ∙ repeated_fault (λ u. field_part at.self.limit) c.in-Ok.count at.counter tt at.self.input.end at.self.input.rest.now c.in-Err-field.error c.fields-test.true
    c.in-Err-field.ensures.is

pub returns-clause-is : goal.returns-clause-is
returns-clause-is c =
    let at = c.fields in
    at.invariant.is ∙ repeated_none (λ u. field_part at.self.limit) c.in-Ok.count at.counter tt at.self.input.end at.self.input.rest.now c.fields-test.false

pub fields-preserved : goal.fields-preserved
fields-preserved c =
    let at = c.fields in
    let new = c.field.new.self in
    record {
      same_limit = c.field.ensures.same_limit ∙ at.invariant.same_limit;
      same_end = c.field.ensures.same_end ∙ at.invariant.same_end;
      shorter = omega (arith, c.in-Ok-field.ensures.shorter);
      is =
          at.invariant.is
          ∙ passed_next field_part c.in-Ok.count at.counter at.self.limit new.limit at.self.input.end new.input.end at.self.input.rest.now new.input.rest.now
          c.fields-test.true c.in-Ok-field.ensures.is c.field.ensures.same_end c.field.ensures.same_limit;
    }
