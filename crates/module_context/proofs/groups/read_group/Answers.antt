use Rattle.std.proofs.Common.{◌∙◌}
use Rattle.std.specs.Prelude.{map}
use Rattle.wasm_context.specs.Declarations.{declared_of}
use Rattle.wasm_sections.proofs.TypeReadingLemmas.{repeated_none, next_of, vector_next}
use Rattle.module_context.specs.TypeSections.{declared_type_part}
use Rattle.module_context.proofs.TypePartLemmas.{one_more_mapped, vector_fails}
use Rattle.module_context.proofs.groups.read_group.Goals as goal

pub members-preserved : goal.members-preserved
members-preserved c =
    let at = c.members in
    let ty = c.in-Ok-declared_type.ty in
    let new = c.declared_type.new.input in
    record {
      same_end = c.declared_type.ensures.same_end ∙ at.invariant.same_end;
      is =
          at.invariant.is
          ∙ vector_next declared_type_part c.in-Ok.count at.counter (map declared_of at.types.items) (map declared_of c.push.new.self.items) (declared_of ty) at.input.end new.end
          at.input.rest.now new.rest.now c.members-test.true c.in-Ok-declared_type.ensures.is
          (one_more_mapped declared_of at.types.items c.push.new.self.items ty c.in_ok-push-in-Ok-declared_type.ensures.items) c.declared_type.ensures.same_end;
    }

pub returns-in-Err-declared_type-clause-is : goal.returns-in-Err-declared_type-clause-is
returns-in-Err-declared_type-clause-is c =
    let at = c.members in
    vector_fails declared_type_part _ c.in-Ok.count at.counter (map declared_of at.types.items) at.input.end at.input.rest.now c.in-Err-declared_type.error c.members-test.true
    at.invariant.is c.in-Err-declared_type.ensures.is

pub returns-clause-is : goal.returns-clause-is
returns-clause-is c =
    let at = c.members in
    at.invariant.is ∙ repeated_none (next_of declared_type_part) c.in-Ok.count at.counter (map declared_of at.types.items) at.input.end at.input.rest.now c.members-test.false
