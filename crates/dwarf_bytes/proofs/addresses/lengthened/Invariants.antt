use Rattle.std.proofs.Common.{drop, None}
use Rattle.dwarf_bytes.specs.Merging.{merging, none_merged}
use Rattle.dwarf_bytes.specs.Patches.{changes}
use Rattle.dwarf_bytes.specs.Uses.{longer_steps}
use Rattle.dwarf_bytes.proofs.MergingLemmas.{MergesLeft}
use Rattle.dwarf_bytes.proofs.addresses.lengthened.Given as goal

abbrev pub invariant-each : goal.invariant-each
invariant-each l = MergesLeft (longer_steps None l.tables) (none_merged (changes l.first)) (longer_steps l.before (drop l.table-index l.tables)) (merging l.all)
