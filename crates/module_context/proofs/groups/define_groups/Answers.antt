use Rattle.std.proofs.Common.{◌∙◌}
use Rattle.module_context.specs.TypeSections.{groups_part}
use Rattle.module_context.proofs.GroupLemmas.{one_more_group, all_groups, group_fails}
use Rattle.module_context.proofs.groups.define_groups.Goals as goal

pub groups-preserved : goal.groups-preserved
groups-preserved c =
    let before = c.args.input.now in
    let at = c.groups in
    let new = c.define_group.new in
    record {
      same_end = c.define_group.ensures.same_end ∙ at.invariant.same_end;
      so_far = λ none.
          let so = at.invariant.so_far none in
          one_more_group (groups_part before.end before.rest.now) c.in-Ok.count at.counter at.definitions new.definitions at.input.end new.input.end at.input.rest.now
          new.input.rest.now c.groups-test.true so (c.in-Ok-define_group.ensures.is so.groups so.are_defined) c.define_group.ensures.same_end;
    }

pub returns-in-Err-define_group-clause-is : goal.returns-in-Err-define_group-clause-is
returns-in-Err-define_group-clause-is c = λ none.
    let before = c.args.input.now in
    let at = c.groups in
    let so = at.invariant.so_far none in
    group_fails (groups_part before.end before.rest.now) c.in-Ok.count at.counter at.definitions at.input.end at.input.rest.now c.in-Err-define_group.error c.groups-test.true so
    (c.in-Err-define_group.ensures.is so.groups so.are_defined)

pub returns-clause-is : goal.returns-clause-is
returns-clause-is c = λ none.
    let before = c.args.input.now in
    let at = c.groups in
    all_groups (groups_part before.end before.rest.now) c.in-Ok.count at.counter at.definitions at.input.end at.input.rest.now c.groups-test.false (at.invariant.so_far none)
