use Rattle.std.proofs.Common.{Ok, ◌∙◌}
use Rattle.module_removal.specs.CopiedItems.{copied_import}
use Rattle.module_removal.proofs.GatherLemmas.{own_part}
use Rattle.module_removal.proofs.counting.count_import.Goals as goal

pub returns-clause-is : goal.returns-clause-is
returns-clause-is c = λ none.
    let copies = c.in-Ok.ensures.is in (
      c.in-Ok.value,
      copies.0,
      own_part copied_import c.args.input.now.end c.args.input.now.rest.now c.clear.new.self (Ok ((c.in-Ok.value, copies.0), c.import.new.input.rest.now))
          (c.clear.ensures.left ∙ none) copies.1,
      c.add.ensures.more,
    )
