use Rattle.std.proofs.Common.{◌≡◌, ◌-◌, length}
use Rattle.dwarf_bytes.specs.Merging.{merging, first_taken}
use Rattle.dwarf_bytes.specs.Patches.{changes}
use Rattle.dwarf_bytes.proofs.merging.MergedPatches.take_before.Given as goal

abbrev pub invariant-parts : goal.invariant-parts
invariant-parts l = first_taken l.place (merging l.self) ≡ first_taken l.place (merging l.fn.self)

abbrev pub decreases-parts : goal.decreases-parts
decreases-parts l = length (changes l.self.first.now) - l.self.taken
