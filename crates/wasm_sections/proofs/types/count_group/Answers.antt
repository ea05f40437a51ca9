use Rattle.std.proofs.Common.{◌∙◌, arith}
use Rattle.wasm_sections.specs.Format.{members_part, next_type}
use Rattle.wasm_sections.proofs.TypeReadingLemmas.{number_then, one_more_counted, all_counted, type_fault}
use Rattle.wasm_sections.proofs.types.count_group.Goals as goal

pub group-init : goal.group-init
group-init c =
    let before = c.args.reader.now in
    let new = c.members.new.self in
    record {
      same_limit = c.members.ensures.same_limit;
      same_end = c.members.ensures.same_end;
      few = omega (arith, c.in-Ok.ensures.shorter);
      is = λ types count few. record {
        types = types;
        count_is = count;
        whole_is =
            number_then members_part (next_type before.limit) types before.input.end new.input.end before.input.rest.now new.input.rest.now c.in-Ok.members
            c.members.ensures.same_end c.in-Ok.ensures.is;
      };
    }

pub returns-in-Err-subtype-clause-is : goal.returns-in-Err-subtype-clause-is
returns-in-Err-subtype-clause-is c = λ types count few.
    let at = c.group in
    type_fault _ c.args.reader.now.limit at.reader.limit c.in-Ok.members at.counter at.count at.reader.input.end at.reader.input.rest.now c.subtype.new.self.input.rest.now c.in-Err-subtype.error
    c.group-test.true (at.invariant.is types count few) at.invariant.same_limit c.in-Err-subtype.ensures.is

pub group-preserved : goal.group-preserved
group-preserved c =
    let at = c.group in
    record {
      same_limit = c.subtype.ensures.same_limit ∙ at.invariant.same_limit;
      same_end = c.subtype.ensures.same_end ∙ at.invariant.same_end;
      few = omega (arith, c.saturating_add-count.ensures, c.in-Ok-subtype.ensures.shorter);
      is = λ types count few.
          one_more_counted _ c.args.reader.now.limit at.reader.limit c.in-Ok.members at.counter at.count c.saturating_add-count.result at.reader.input.end
          c.subtype.new.self.input.end at.reader.input.rest.now c.subtype.new.self.input.rest.now _ c.group-test.true (at.invariant.is types count few)
          at.invariant.same_limit c.in-Ok-subtype.ensures.is c.subtype.ensures.same_end
          (omega (arith, c.saturating_add-count.ensures, c.in-Ok-subtype.ensures.shorter));
    }

pub returns-clause-is : goal.returns-clause-is
returns-clause-is c = λ types count few.
    let at = c.group in
    all_counted _ (next_type c.args.reader.now.limit) c.in-Ok.members at.counter at.count at.reader.input.end at.reader.input.rest.now c.group-test.false
    (at.invariant.is types count few)
