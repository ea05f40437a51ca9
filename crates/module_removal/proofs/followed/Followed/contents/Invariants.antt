use Rattle.std.proofs.Common.{◌≡◌, []}
use Rattle.module_removal.specs.Entries.{entries_made}
use Rattle.module_removal.specs.LeftParts.{ArePartsInOrder, LeavesFunction}
use Rattle.module_removal.proofs.SectionStepLemmas.{ItemsPassed}
use Rattle.module_removal.proofs.followed.Followed.contents.Given as goal

abbrev pub invariant-functions : goal.invariant-functions
invariant-functions l = record {
  same_end : l.input.end ≡ l.contents.end;
  passed :
      ArePartsInOrder l.self.parts.items
      → ItemsPassed (LeavesFunction l.left l.self.parts.items) l.contents.end l.contents.rest.now l.count l.counter (0, []) (entries_made l.functions, l.input.rest.now);
}
