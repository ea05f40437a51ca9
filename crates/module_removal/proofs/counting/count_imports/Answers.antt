use Rattle.std.proofs.Common.{◌∙◌}
use Rattle.module_removal.specs.Counting.{CountsImport}
use Rattle.module_removal.proofs.SectionStepLemmas.{no_item_passed, one_more_item, all_items_passed}
use Rattle.module_removal.proofs.counting.count_imports.Goals as goal

pub imports-init : goal.imports-init
imports-init c = record {
  same_end = c.number.ensures.same_end;
  finds = c.finding-copier.ensures.left;
  passed = no_item_passed CountsImport c.args.contents.end c.in-Ok.value c.args.contents.rest.now c.number.new.self.rest.now c.args.counts.now c.in-Ok.ensures.is;
}

pub imports-preserved : goal.imports-preserved
imports-preserved c =
    let at = c.imports in
    record {
      same_end = c.count_import.ensures.same_end ∙ at.invariant.same_end;
      finds = c.in-Ok-count_import.ensures.same_left ∙ at.invariant.finds;
      passed =
          one_more_item CountsImport c.args.contents.end at.input.end c.args.contents.rest.now c.in-Ok.value at.counter c.args.counts.now (at.counts, at.input.rest.now)
          (c.count_import.new.counts, c.count_import.new.input.rest.now) at.invariant.passed c.imports-test.true at.invariant.same_end
          (c.in-Ok-count_import.ensures.is at.invariant.finds);
    }

pub returns : goal.returns
returns c =
    let at = c.imports in
    all_items_passed CountsImport c.args.contents.end c.args.contents.rest.now c.in-Ok.value at.counter c.args.counts.now (at.counts, at.input.rest.now) at.invariant.passed
    c.imports-test.false
