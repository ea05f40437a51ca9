use Rattle.std.proofs.Common.{inr, ◌∙◌}
use Rattle.wasm_sections.specs.Format.{value_part}
use Rattle.wasm_sections.proofs.TypeReadingLemmas.{repeated_none, next_of, vector_next, vector_fault}
use Rattle.module_context.proofs.composite_types.value_types.Goals as goal

pub returns-in-Err-value_type-clause-is : goal.returns-in-Err-value_type-clause-is
returns-in-Err-value_type-clause-is c =
    let at = c.types in
    inr (at.invariant.is
    ∙ vector_fault value_part c.in-Ok.count at.counter at.types.items at.input.end at.input.rest.now c.in-Err-value_type.error c.types-test.true c.in-Err-value_type.ensures.is)

pub types-preserved : goal.types-preserved
types-preserved c =
    let at = c.types in
    record {
      same_end = c.value_type.ensures.same_end ∙ at.invariant.same_end;
      is =
          at.invariant.is
          ∙ vector_next value_part c.in-Ok.count at.counter at.types.items c.push.new.self.items c.in-Ok-value_type.ty at.input.end c.value_type.new.self.end
          at.input.rest.now c.value_type.new.self.rest.now c.types-test.true c.in-Ok-value_type.ensures.is c.in_ok-push-in-Ok-value_type.ensures.items
          c.value_type.ensures.same_end;
    }

pub returns-clause-is : goal.returns-clause-is
returns-clause-is c =
    let at = c.types in
    at.invariant.is ∙ repeated_none (next_of value_part) c.in-Ok.count at.counter at.types.items at.input.end at.input.rest.now c.types-test.false
