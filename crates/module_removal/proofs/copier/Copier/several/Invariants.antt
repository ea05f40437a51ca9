use Rattle.std.proofs.Common.{◌≡◌}
use Rattle.module_removal.specs.LeftSpaces.{index_written}
use Rattle.module_removal.specs.CopiedItems.{copied_one}
use Rattle.module_removal.proofs.CopyLemmas.{SomeCopied}
use Rattle.module_removal.proofs.copier.Copier.several.Given as goal

abbrev pub invariant-items : goal.invariant-items
invariant-items l = record {
  same_end : l.input.end ≡ l.fn.input.end;
  some : SomeCopied (copied_one (index_written l.fn.self.left) l.of) l.count l.counter l.fn.input.end l.fn.input.rest.now l.input.rest.now l.fn.self l.self;
}
