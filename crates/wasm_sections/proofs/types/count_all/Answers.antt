use Rattle.std.proofs.Common.{◌∙◌, arith}
use Rattle.wasm_sections.specs.Format.{next_group}
use Rattle.wasm_sections.proofs.TypeReadingLemmas.{group_counted, all_counted, group_fault}
use Rattle.wasm_sections.proofs.types.count_all.Goals as goal

pub returns-in-Err-count_group-clause-is : goal.returns-in-Err-count_group-clause-is
returns-in-Err-count_group-clause-is c =
    let at = c.groups in
    let so = at.invariant.is in
    group_fault _ c.args.reader.now.limit at.reader.limit c.in-Ok.groups at.counter at.count at.reader.input.end at.reader.input.rest.now c.count_group.new.reader.input.rest.now
    c.in-Err-count_group.error c.groups-test.true so at.invariant.same_limit
    (c.in-Err-count_group.ensures.is so.types so.count_is (omega (arith, at.invariant.few, c.at-place.ensures.fits)))

pub groups-preserved : goal.groups-preserved
groups-preserved c =
    let at = c.groups in
    let so = at.invariant.is in
    let new = c.count_group.new.reader in
    record {
      same_limit = c.count_group.ensures.same_limit ∙ at.invariant.same_limit;
      same_end = c.count_group.ensures.same_end ∙ at.invariant.same_end;
      few = omega (arith, c.in-Ok-count_group.ensures.few);
      is =
          group_counted _ c.args.reader.now.limit at.reader.limit c.in-Ok.groups at.counter at.count c.in-Ok-count_group.more at.reader.input.end new.input.end
          at.reader.input.rest.now new.input.rest.now c.groups-test.true so at.invariant.same_limit
          (c.in-Ok-count_group.ensures.is so.types so.count_is (omega (arith, at.invariant.few, c.at-place.ensures.fits))) c.count_group.ensures.same_end;
    }

pub returns-clause-is : goal.returns-clause-is
returns-clause-is c =
    let at = c.groups in
    all_counted _ (next_group c.args.reader.now.limit) c.in-Ok.groups at.counter at.count at.reader.input.end at.reader.input.rest.now c.groups-test.false at.invariant.is
