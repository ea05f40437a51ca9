use Rattle.std.proofs.Common.{inr, ◌∙◌, arith}
use Rattle.wasm_sections.specs.Format.{value_below}
use Rattle.wasm_sections.proofs.TypeReadingLemmas.{repeated_none, next_of, vector_next, vector_fault}
use Rattle.wasm_sections.proofs.types.read_value_types.Goals as goal

pub returns-in-Err-read_value_type-clause-is : goal.returns-in-Err-read_value_type-clause-is
returns-in-Err-read_value_type-clause-is c =
    let at = c.types in
    inr (at.invariant.is
    ∙ vector_fault (value_below c.args.limit) c.in-Ok.count at.counter at.types.items at.input.end at.input.rest.now c.in-Err-read_value_type.error c.types-test.true
    c.in-Err-read_value_type.ensures.is)

pub types-preserved : goal.types-preserved
types-preserved c =
    let at = c.types in
    record {
      same_end = c.read_value_type.ensures.same_end ∙ at.invariant.same_end;
      shorter = omega (arith, c.in-Ok-read_value_type.ensures.shorter);
      is =
          at.invariant.is
          ∙ vector_next (value_below c.args.limit) c.in-Ok.count at.counter at.types.items c.push.new.self.items c.in-Ok-read_value_type.ty at.input.end
          c.read_value_type.new.input.end at.input.rest.now c.read_value_type.new.input.rest.now c.types-test.true c.in-Ok-read_value_type.ensures.is
          c.in_ok-push-in-Ok-read_value_type.ensures.items c.read_value_type.ensures.same_end;
    }

pub returns-clause-is : goal.returns-clause-is
returns-clause-is c =
    let at = c.types in
    at.invariant.is
    ∙ repeated_none (next_of (value_below c.args.limit)) c.in-Ok.count at.counter at.types.items at.input.end at.input.rest.now c.types-test.false
