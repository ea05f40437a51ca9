use Rattle.std.proofs.Common.{ℕ, List, Option, sym, ap, ◌∙◌}
use Rattle.module_removal.specs.LeftSpaces.{index_written}
use Rattle.module_removal.specs.CopiedItems.{copied_table_type, copied_initialized, copied_table_after, copied_table}
use Rattle.module_removal.proofs.CopyLemmas.{copies_as}
use Rattle.module_removal.proofs.copier.Copier.table.Goals as goal

pub returns-in-Some-clause-is : goal.returns-in-Some-clause-is
returns-in-Some-clause-is c =
    copies_as c.args.self.now c.initialized.new.self c.initialized.new.input.rest.now c.initialized.result (copied_initialized (index_written c.args.self.now.left) c.in-Some.after.end c.in-Some.after.rest.now) (copied_table (index_written c.args.self.now.left) c.args.input.now.end c.args.input.now.rest.now)
    (ap (λ (o : Option (List ℕ)). copied_table_after (index_written c.args.self.now.left) o c.args.input.now.end c.args.input.now.rest.now) (sym c.in-Some.ensures.is)
    ∙ ap (λ (n : ℕ). copied_initialized (index_written c.args.self.now.left) n c.in-Some.after.rest.now) (sym c.in-Some.ensures.same_end))
    c.initialized.ensures.is

pub returns-in-None-clause-is : goal.returns-in-None-clause-is
returns-in-None-clause-is c =
    copies_as c.args.self.now c.table_type.new.self c.table_type.new.input.rest.now c.table_type.result (copied_table_type (index_written c.args.self.now.left) c.args.input.now.end c.args.input.now.rest.now) (copied_table (index_written c.args.self.now.left) c.args.input.now.end c.args.input.now.rest.now)
    (ap (λ (o : Option (List ℕ)). copied_table_after (index_written c.args.self.now.left) o c.args.input.now.end c.args.input.now.rest.now) (sym c.in-None.ensures.is))
    c.table_type.ensures.is
