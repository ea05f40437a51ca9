use Rattle.std.proofs.Common.{drop}
use Rattle.dwarf_bytes.specs.Changes.{are_resized}
use Rattle.dwarf_bytes.specs.Patches.{changes}
use Rattle.dwarf_bytes.proofs.PatchLemmas.{ResizedLeft}
use Rattle.dwarf_bytes.proofs.patches.Patches.resizes.Given as goal

abbrev pub invariant-loop-patch : goal.invariant-loop-patch
invariant-loop-patch l = ResizedLeft (drop l.patch-index l.self.patches.items) l.self.bytes.items (are_resized (changes l.self)) l.start
