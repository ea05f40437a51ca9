use Rattle.std.proofs.Common.{drop}
use Rattle.dwarf_bytes.specs.Changes.{patched}
use Rattle.dwarf_bytes.specs.Patches.{changes}
use Rattle.dwarf_bytes.proofs.PatchLemmas.{Applied}
use Rattle.dwarf_bytes.proofs.patches.Patches.apply.Given as goal

abbrev pub invariant-loop-patch : goal.invariant-loop-patch
invariant-loop-patch l = Applied (drop l.patch-index l.self.patches.items) (patched (changes l.self) l.section) l.self.bytes.items l.section l.out.items l.from l.start
