use Rattle.std.proofs.Common.{◌∙◌}
use Rattle.wasm_sections.specs.Format.{members_part, next_type}
use Rattle.module_removal.proofs.AlikeLemmas.{no_type_read, types_read_more, types_unread, types_read}
use Rattle.module_removal.proofs.alike.AlikeTypes.add_group.Goals as goal

pub group-init : goal.group-init
group-init c =
    let before = c.args.reader.now in
    let new = c.members.new.self in
    record {
      same_limit = c.members.ensures.same_limit;
      same_end = c.members.ensures.same_end;
      types = no_type_read members_part (next_type before.limit) c.in-Ok.value c.args.self.now.types before.input.end before.input.rest.now new.input.rest.now c.in-Ok.ensures.is;
    }

pub group-preserved : goal.group-preserved
group-preserved c =
    let at = c.group in
    let before = c.args.reader.now in
    let new = c.add.new.reader in
    record {
      same_limit = c.add.ensures.same_limit ∙ at.invariant.same_limit;
      same_end = c.add.ensures.same_end ∙ at.invariant.same_end;
      types =
          types_read_more members_part next_type before.limit at.reader.limit c.in-Ok.value at.counter c.args.self.now.types at.self.types before.input.end at.reader.input.end
          before.input.rest.now at.reader.input.rest.now at.invariant.types at.invariant.same_limit at.invariant.same_end c.add.new.self.types new.input.rest.now c.group-test.true
          c.in-Ok-add.ensures.is;
    }

pub returns-in-Err-add-clause-is : goal.returns-in-Err-add-clause-is
returns-in-Err-add-clause-is c =
    let at = c.group in
    let before = c.args.reader.now in
    types_unread members_part next_type before.limit at.reader.limit c.in-Ok.value at.counter c.args.self.now.types at.self.types before.input.end at.reader.input.end
    before.input.rest.now at.reader.input.rest.now at.invariant.types at.invariant.same_limit at.invariant.same_end c.in-Err-add.error c.group-test.true
    c.in-Err-add.ensures.is

pub returns-clause-is : goal.returns-clause-is
returns-clause-is c =
    let at = c.group in
    let before = c.args.reader.now in
    types_read members_part next_type before.limit at.reader.limit c.in-Ok.value at.counter c.args.self.now.types at.self.types before.input.end at.reader.input.end
    before.input.rest.now at.reader.input.rest.now at.invariant.types at.invariant.same_limit at.invariant.same_end c.group-test.false
