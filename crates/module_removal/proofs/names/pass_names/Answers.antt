use Rattle.std.proofs.Common.{◌∙◌}
use Rattle.module_removal.specs.LeftNames.{name_entry_part}
use Rattle.module_removal.proofs.VectorLemmas.{no_part_read, one_more_part, all_parts_read}
use Rattle.module_removal.proofs.names.pass_names.Goals as goal

pub names-init : goal.names-init
names-init c = record {
  same_end = c.number.ensures.same_end;
  left = no_part_read (λ (u : Unit {0}). name_entry_part) c.in-Ok.value tt c.args.input.now.end c.args.input.now.rest.now c.number.new.self.rest.now c.in-Ok.ensures.is;
}

pub names-preserved : goal.names-preserved
names-preserved c =
    let at = c.names in
    record {
      same_end = c.pass_name.ensures.same_end ∙ at.invariant.same_end;
      left =
          one_more_part (λ (u : Unit {0}). name_entry_part) c.in-Ok.value at.counter tt tt tt c.args.input.now.end at.input.end c.args.input.now.rest.now at.input.rest.now
          c.pass_name.new.input.rest.now at.invariant.left c.names-test.true at.invariant.same_end c.in-Ok-pass_name.ensures.is;
    }

pub returns-clause-is : goal.returns-clause-is
returns-clause-is c =
    let at = c.names in
    all_parts_read (λ (u : Unit {0}). name_entry_part) c.in-Ok.value at.counter tt tt c.args.input.now.end c.args.input.now.rest.now at.input.rest.now at.invariant.left
    c.names-test.false
