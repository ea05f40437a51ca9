use Rattle.std.proofs.Common.{Err, sym, ap, ◌∙◌}
use Rattle.wasm_sections.specs.declared.fault.ModuleError.{ModuleError}
use Rattle.wasm_sections.specs.Parts.{number, vector_of}
use Rattle.module_context.proofs.TypePartLemmas.{no_supertype, one_supertype, supertypes_read, supertypes_refused, supertype_fails}
use Rattle.module_context.proofs.composite_types.supertype.Goals as goal

pub supertypes-init : goal.supertypes-init
supertypes-init c =
    let before = c.args.input.now in
    let new = c.number.new.self in
    record {
      same_end = c.number.ensures.same_end;
      so_far = no_supertype before.end new.end before.rest.now new.rest.now c.in-Ok.count c.in-Ok.ensures.is c.number.ensures.same_end;
    }

pub supertypes-preserved : goal.supertypes-preserved
supertypes-preserved c =
    let before = c.args.input.now in
    let at = c.supertypes in
    let new = c.number-in-supertypes.new.self in
    record {
      same_end = c.number-in-supertypes.ensures.same_end ∙ at.invariant.same_end;
      so_far =
          one_supertype (vector_of number before.end before.rest.now) c.in-Ok.count at.counter at.last at.input.end new.end at.input.rest.now new.rest.now
          c.in-Ok-number.index c.supertypes-test.true at.invariant.so_far c.in-Ok-number.ensures.is c.number-in-supertypes.ensures.same_end;
    }

pub returns-in-Err-number-clause-is : goal.returns-in-Err-number-clause-is
returns-in-Err-number-clause-is c =
    let before = c.args.input.now in
    let at = c.supertypes in
    supertype_fails before.end at.input.end before.rest.now at.input.rest.now c.in-Ok.count at.counter at.last c.in-Err-number.error c.supertypes-test.true at.invariant.so_far
    c.in-Err-number.ensures.is

pub returns-then-count-gt1-clause-is : goal.returns-then-count-gt1-clause-is
returns-then-count-gt1-clause-is c =
    let before = c.args.input.now in
    let at = c.supertypes in
    supertypes_refused before.end at.input.end before.rest.now at.input.rest.now c.in-Ok.count at.counter at.last c.supertypes-test.false c.if-count-gt1.true at.invariant.so_far
    ∙ ap (λ (e : ModuleError). Err e) (sym c.fault.ensures)

pub returns-clause-is : goal.returns-clause-is
returns-clause-is c =
    let before = c.args.input.now in
    let at = c.supertypes in
    supertypes_read before.end at.input.end before.rest.now at.input.rest.now c.in-Ok.count at.counter at.last c.supertypes-test.false at.auto.counter-end c.if-count-gt1.false
    at.invariant.so_far
