use Rattle.std.proofs.Common.{ap}
use Rattle.module_removal.specs.declared.vectors.VectorOf.{VectorOf}
use Rattle.module_removal.specs.LeftSpaces.{index_written}
use Rattle.module_removal.specs.CopiedParts.{copied_index, copied_value}
use Rattle.module_removal.specs.CopiedConstants.{copied_constant}
use Rattle.module_removal.specs.CopiedItems.{copied_field, copied_run, copied_one}
use Rattle.module_removal.proofs.CopyLemmas.{copies_as}
use Rattle.module_removal.proofs.copier.Copier.one.Goals as goal

pub returns-in-Values-clause-is : goal.returns-in-Values-clause-is
returns-in-Values-clause-is c =
    copies_as c.args.self.now c.value_type.new.self c.value_type.new.input.rest.now c.value_type.result (copied_value (index_written c.args.self.now.left) c.args.input.now.end c.args.input.now.rest.now) (copied_one (index_written c.args.self.now.left) c.args.of c.args.input.now.end c.args.input.now.rest.now)
    (ap (λ (v : VectorOf). copied_one (index_written c.args.self.now.left) v c.args.input.now.end c.args.input.now.rest.now) c.in-Values.is)
    c.value_type.ensures.is

pub returns-in-Fields-clause-is : goal.returns-in-Fields-clause-is
returns-in-Fields-clause-is c =
    copies_as c.args.self.now c.field.new.self c.field.new.input.rest.now c.field.result (copied_field (index_written c.args.self.now.left) c.args.input.now.end c.args.input.now.rest.now) (copied_one (index_written c.args.self.now.left) c.args.of c.args.input.now.end c.args.input.now.rest.now)
    (ap (λ (v : VectorOf). copied_one (index_written c.args.self.now.left) v c.args.input.now.end c.args.input.now.rest.now) c.in-Fields.is)
    c.field.ensures.is

pub returns-in-Indices-clause-is : goal.returns-in-Indices-clause-is
returns-in-Indices-clause-is c =
    copies_as c.args.self.now c.index.new.self c.index.new.input.rest.now c.index.result (copied_index (index_written c.args.self.now.left) c.in-Indices.space c.args.input.now.end c.args.input.now.rest.now) (copied_one (index_written c.args.self.now.left) c.args.of c.args.input.now.end c.args.input.now.rest.now)
    (ap (λ (v : VectorOf). copied_one (index_written c.args.self.now.left) v c.args.input.now.end c.args.input.now.rest.now) c.in-Indices.is)
    c.index.ensures.is

pub returns-in-Constants-clause-is : goal.returns-in-Constants-clause-is
returns-in-Constants-clause-is c =
    copies_as c.args.self.now c.constant.new.self c.constant.new.input.rest.now c.constant.result (copied_constant (index_written c.args.self.now.left) c.args.input.now.end c.args.input.now.rest.now) (copied_one (index_written c.args.self.now.left) c.args.of c.args.input.now.end c.args.input.now.rest.now)
    (ap (λ (v : VectorOf). copied_one (index_written c.args.self.now.left) v c.args.input.now.end c.args.input.now.rest.now) c.in-Constants.is)
    c.constant.ensures.is

pub returns-in-Runs-clause-is : goal.returns-in-Runs-clause-is
returns-in-Runs-clause-is c =
    copies_as c.args.self.now c.run.new.self c.run.new.input.rest.now c.run.result (copied_run (index_written c.args.self.now.left) c.args.input.now.end c.args.input.now.rest.now) (copied_one (index_written c.args.self.now.left) c.args.of c.args.input.now.end c.args.input.now.rest.now)
    (ap (λ (v : VectorOf). copied_one (index_written c.args.self.now.left) v c.args.input.now.end c.args.input.now.rest.now) c.in-Runs.is)
    c.run.ensures.is
