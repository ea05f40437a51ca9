use Rattle.module_removal.specs.CopiedParts.{item_at, copied_item}
use Rattle.module_removal.specs.LeftSpaces.{index_written}
use Rattle.wasm_sections.specs.Parts.{number}
use Rattle.module_removal.proofs.CopyLemmas.{checked_copies, unchecked}
use Rattle.module_removal.proofs.copier.Copier.index.Goals as goal

pub returns-in-Ok-clause-is : goal.returns-in-Ok-clause-is
returns-in-Ok-clause-is c =
    checked_copies number (λ i. copied_item (index_written c.args.self.now.left) (item_at c.args.space i)) c.args.input.now.end c.args.input.now.rest.now c.at-at.result c.args.self.now c.put_index.new.self c.number.new.self.rest.now c.in-Ok.index c.put_index.result c.at-at.ensures.place c.in-Ok.ensures.is c.put_index.ensures

pub returns-in-Err-clause-is : goal.returns-in-Err-clause-is
returns-in-Err-clause-is c =
    unchecked number (λ i. copied_item (index_written c.args.self.now.left) (item_at c.args.space i)) c.args.input.now.end c.args.input.now.rest.now c.in-Err.error c.in-Err.ensures.is
