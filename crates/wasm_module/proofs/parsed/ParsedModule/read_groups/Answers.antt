use Rattle.std.proofs.Common.{◌-◌, ◌∙◌, refl, ap, sym, List, []}
use Rattle.walrus_ir.specs.Types.{ModuleType}
use Rattle.wasm_sections.specs.Format.{next_group, types_part}
use Rattle.wasm_sections.specs.Parts.{number, repeated}
use Rattle.wasm_sections.proofs.TypeReadingLemmas.{number_then, repeated_none, unless_memory_as}
use Rattle.wasm_module.proofs.TypeSectionLemmas.{types_then, groups_next, groups_fail, ids_still}
use Rattle.wasm_module.proofs.parsed.ParsedModule.read_groups.Goals as goal

pub groups-init : goal.groups-init
groups-init c =
    let before = c.args.reader.now in
    let new = c.groups-2.new.self in
    record {
      others = record { components = refl; spaces = refl };
      same_limit = c.groups-2.ensures.same_limit;
      same_end = c.groups-2.ensures.same_end;
      is = λ ids none.
          number_then number (next_group before.limit) [] before.input.end new.input.end before.input.rest.now new.input.rest.now c.in-Ok.groups
          c.groups-2.ensures.same_end c.in-Ok.ensures.is
          ∙ ap (λ (ts : List ModuleType). repeated (next_group before.limit) (c.in-Ok.groups - 0) ts new.input.end new.input.rest.now) (sym none);
    }

pub returns-in-Err-read_group-clause-is : goal.returns-in-Err-read_group-clause-is
returns-in-Err-read_group-clause-is c = λ ids none.
    let at = c.groups in
    let before = c.args.reader.now in
    unless_memory_as c.in-Err-read_group.error
    (repeated (next_group before.limit) (c.in-Ok.groups - at.counter) at.self.«module».types at.reader.input.end at.reader.input.rest.now)
    (types_part before.limit before.input.end before.input.rest.now) (at.invariant.is ids none)
    (groups_fail before.limit at.reader.limit c.in-Ok.groups at.counter at.reader.input.end at.reader.input.rest.now at.self.«module».types c.in-Err-read_group.error c.groups-test.true
    at.invariant.same_limit
    (c.in-Err-read_group.ensures.is (ids_still c.args.self.now at.self before.limit at.reader.limit at.invariant.others at.invariant.same_limit ids)))

pub groups-preserved : goal.groups-preserved
groups-preserved c =
    let at = c.groups in
    let before = c.args.reader.now in
    let read = c.read_group.new.reader in
    let new = c.read_group.new.self in
    record {
      others = types_then c.args.self.now at.self new at.invariant.others c.read_group.ensures.others;
      same_limit = c.read_group.ensures.same_limit ∙ at.invariant.same_limit;
      same_end = c.read_group.ensures.same_end ∙ at.invariant.same_end;
      is = λ ids none.
          at.invariant.is ids none
          ∙ groups_next before.limit at.reader.limit c.in-Ok.groups at.counter at.reader.input.end read.input.end at.reader.input.rest.now read.input.rest.now
          at.self.«module».types new.«module».types c.groups-test.true at.invariant.same_limit
          (c.in-Ok-read_group.ensures.is (ids_still c.args.self.now at.self before.limit at.reader.limit at.invariant.others at.invariant.same_limit ids))
          c.read_group.ensures.same_end;
    }

pub returns-clause-is : goal.returns-clause-is
returns-clause-is c = λ ids none.
    let at = c.groups in
    at.invariant.is ids none
    ∙ repeated_none (next_group c.args.reader.now.limit) c.in-Ok.groups at.counter at.self.«module».types at.reader.input.end at.reader.input.rest.now c.groups-test.false
