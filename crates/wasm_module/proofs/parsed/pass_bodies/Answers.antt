use Rattle.std.proofs.Common.{refl, ◌∙◌}
use Rattle.wasm_sections.specs.Components.{body_part}
use Rattle.wasm_sections.specs.Parts.{passed}
use Rattle.wasm_sections.proofs.TypeReadingLemmas.{repeated_none, repeated_fault, passed_next}
use Rattle.wasm_module.proofs.parsed.pass_bodies.Goals as goal

pub returns-in-Err-clause-is : goal.returns-in-Err-clause-is
returns-in-Err-clause-is c =
    let at = c.bodies in
    at.invariant.is
    ∙ repeated_fault (λ u. passed body_part) c.args.count at.counter tt at.input.end at.input.rest.now c.in-Err.error c.bodies-test.true c.in-Err.ensures.is

pub bodies-preserved : goal.bodies-preserved
bodies-preserved c =
    let at = c.bodies in
    let new = c.pass_body.new.input in
    record {
      same_end = c.pass_body.ensures.same_end ∙ at.invariant.same_end;
      is =
          at.invariant.is
          ∙ passed_next (λ k. passed body_part) c.args.count at.counter 0 0 at.input.end new.end at.input.rest.now new.rest.now c.bodies-test.true c.in-Ok.ensures.is
          c.pass_body.ensures.same_end refl;
    }

pub returns-clause-is : goal.returns-clause-is
returns-clause-is c =
    let at = c.bodies in
    at.invariant.is ∙ repeated_none (λ u. passed body_part) c.args.count at.counter tt at.input.end at.input.rest.now c.bodies-test.false
