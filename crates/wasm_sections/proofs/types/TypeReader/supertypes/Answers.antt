use Rattle.std.proofs.Common.{◌∙◌, arith}
use Rattle.wasm_operators.specs.declared.types.Space.TheVariants as spaces
use Rattle.wasm_sections.specs.Format.{index_part}
use Rattle.wasm_sections.proofs.TypeReadingLemmas.{repeated_none, repeated_fault, passed_next}
use Rattle.wasm_sections.proofs.types.TypeReader.supertypes.Goals as goal

pub returns-in-Err-supertype-clause-is : goal.returns-in-Err-supertype-clause-is
returns-in-Err-supertype-clause-is c =
    let at = c.supertypes in
    at.invariant.is
    ∙ repeated_fault (λ u. index_part at.self.limit spaces.Types) c.in-Ok-number.count at.counter tt at.self.input.end at.self.input.rest.now c.in-Err-supertype.error
    c.supertypes-test.true c.in-Err-supertype.ensures.is

pub returns-clause-is : goal.returns-clause-is
returns-clause-is c =
    let at = c.supertypes in
    at.invariant.is
    ∙ repeated_none (λ u. index_part at.self.limit spaces.Types) c.in-Ok-number.count at.counter tt at.self.input.end at.self.input.rest.now c.supertypes-test.false

pub supertypes-preserved : goal.supertypes-preserved
supertypes-preserved c =
    let at = c.supertypes in
    let new = c.supertype.new.self in
    record {
      same_limit = c.supertype.ensures.same_limit ∙ at.invariant.same_limit;
      same_end = c.supertype.ensures.same_end ∙ at.invariant.same_end;
      shorter = omega (arith, c.in-Ok-supertype.ensures.shorter);
      is =
          at.invariant.is
          ∙ passed_next (λ limit. index_part limit spaces.Types) c.in-Ok-number.count at.counter at.self.limit new.limit at.self.input.end new.input.end at.self.input.rest.now new.input.rest.now
          c.supertypes-test.true c.in-Ok-supertype.ensures.is c.supertype.ensures.same_end c.supertype.ensures.same_limit;
    }
