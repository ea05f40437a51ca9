use Rattle.std.proofs.Common.{◌≡◌, ◌++◌, ℕ, List, [], codes, length}
use Rattle.wasm_sections.specs.CodeSections.{entry}
use Rattle.module_removal.specs.SeveralSteps.{SoManySteps}
use Rattle.module_removal.specs.LeftNames.{LeavesNext}
use Rattle.module_removal.proofs.names.left_names.Given as goal

abbrev pub invariant-subsections : goal.invariant-subsections
invariant-subsections l = record {
  same_end : l.contents.end ≡ l.initial.contents.end;
  left :
      (count : ℕ) × (names : List ℕ) × (l.out.items ≡ entry (codes "name") ++ names)
      × SoManySteps (LeavesNext l.left l.code l.initial.contents.end) count ([], l.initial.contents.rest.now) (names, l.contents.rest.now);
}

abbrev pub decreases-subsections : goal.decreases-subsections
decreases-subsections l = length l.contents.rest.now
