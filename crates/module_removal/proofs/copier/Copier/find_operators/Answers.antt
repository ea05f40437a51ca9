use Rattle.std.proofs.Common.{◌∙◌}
use Rattle.wasm_operators.specs.Meaning.{meaning}
use Rattle.module_removal.proofs.NamedLemmas.{one_more_named}
use Rattle.module_removal.proofs.copier.Copier.find_operators.Goals as goal

pub operators-preserved : goal.operators-preserved
operators-preserved c =
    let at = c.operators in
    record {
      same_end = c.in-Ok.ensures.same_end ∙ at.invariant.same_end;
      some =
          one_more_named c.args.func c.args.input.end at.input.end c.args.input.rest.now at.input.rest.now c.read_operator.new.input.rest.now (meaning c.in-Ok.operator)
          (c.args.self.now, c.args.taken.now) (at.self, at.taken) (c.find_operator.new.self, c.find_operator.new.taken) at.invariant.some at.invariant.same_end c.in-Ok.ensures.is c.in-Ok-find_operator.ensures.ok c.in-Ok-find_operator.ensures.taken;
    }
