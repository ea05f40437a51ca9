use Rattle.std.proofs.Common.{◌-◌, ◌∙◌, refl, inl}
use Rattle.wasm_sections.specs.Format.{members_part, next_group, next_type}
use Rattle.wasm_sections.specs.Parts.{repeated}
use Rattle.wasm_sections.proofs.TypeReadingLemmas.{number_then, repeated_none, unless_memory_as}
use Rattle.wasm_module.proofs.TypeSectionLemmas.{types_then, group_next, group_memory, group_fails, ids_still}
use Rattle.wasm_module.proofs.parsed.ParsedModule.read_group.Goals as goal

pub group-init : goal.group-init
group-init c =
    let before = c.args.reader.now in
    let new = c.members.new.self in
    record {
      others = record { components = refl; spaces = refl };
      same_limit = c.members.ensures.same_limit;
      same_end = c.members.ensures.same_end;
      is = λ ids.
          number_then members_part (next_type before.limit) c.args.self.now.«module».types before.input.end new.input.end before.input.rest.now new.input.rest.now c.in-Ok.members
          c.members.ensures.same_end c.in-Ok.ensures.is;
    }

pub returns-in-Err-subtype-clause-is : goal.returns-in-Err-subtype-clause-is
returns-in-Err-subtype-clause-is c = λ ids.
    let at = c.group in
    let before = c.args.reader.now in
    unless_memory_as c.in-Err-subtype.error (repeated (next_type before.limit) (c.in-Ok.members - at.counter) at.self.«module».types at.reader.input.end at.reader.input.rest.now)
    (next_group before.limit c.args.self.now.«module».types before.input.end before.input.rest.now) (at.invariant.is ids)
    (group_fails before.limit at.reader.limit c.in-Ok.members at.counter at.reader.input.end at.reader.input.rest.now at.self.«module».types c.in-Err-subtype.error c.group-test.true
    at.invariant.same_limit c.in-Err-subtype.ensures.is)

pub returns-in-Err-add_type-clause-is : goal.returns-in-Err-add_type-clause-is
returns-in-Err-add_type-clause-is c = λ ids.
    let at = c.group in
    let before = c.args.reader.now in
    let read = c.subtype.new.self in
    inl (group_memory before.limit at.reader.limit at.reader.input.end at.reader.input.rest.now read.input.rest.now at.self.«module».types c.in-Ok-subtype.kind read.params.items
    c.params.result.now read.results.items c.results.result.now c.in-Err-add_type.error at.invariant.same_limit c.in-Ok-subtype.ensures.is c.params.ensures c.results.ensures
    (λ below. c.in-Err-add_type.ensures.is before.limit (ids_still c.args.self.now at.self before.limit before.limit at.invariant.others refl ids) below))

pub group-preserved : goal.group-preserved
group-preserved c =
    let at = c.group in
    let before = c.args.reader.now in
    let read = c.subtype.new.self in
    let new = c.add_type.new.self in
    record {
      others = types_then c.args.self.now at.self new at.invariant.others c.add_type.ensures.others;
      same_limit = c.subtype.ensures.same_limit ∙ at.invariant.same_limit;
      same_end = c.subtype.ensures.same_end ∙ at.invariant.same_end;
      is = λ ids.
          at.invariant.is ids
          ∙ group_next before.limit at.reader.limit c.in-Ok.members at.counter at.reader.input.end read.input.end at.reader.input.rest.now read.input.rest.now at.self.«module».types
          new.«module».types c.in-Ok-subtype.kind read.params.items c.params.result.now read.results.items c.results.result.now c.group-test.true at.invariant.same_limit
          c.in-Ok-subtype.ensures.is c.params.ensures c.results.ensures
          (λ below. c.in-Ok-add_type.ensures.is before.limit (ids_still c.args.self.now at.self before.limit before.limit at.invariant.others refl ids) below)
          c.subtype.ensures.same_end;
    }

pub returns-clause-is : goal.returns-clause-is
returns-clause-is c = λ ids.
    let at = c.group in
    at.invariant.is ids
    ∙ repeated_none (next_type c.args.reader.now.limit) c.in-Ok.members at.counter at.self.«module».types at.reader.input.end at.reader.input.rest.now c.group-test.false
