use Rattle.std.proofs.Common.{◌≡◌, drop, None}
use Rattle.dwarf_bytes.specs.Patches.{changes}
use Rattle.dwarf.specs.IndexEntries.{once, all_names_followed}
use Rattle.dwarf.specs.NameIndexViews.{index_following}
use Rattle.dwarf.proofs.name_index.Following.follow_names.Given as goal

abbrev pub invariant-names : goal.invariant-names
invariant-names l =
    all_names_followed (index_following l.self) 0 (once None l.names) (changes l.fn.out)
    ≡ all_names_followed (index_following l.self) l.end (once l.before (drop l.offset-index l.names)) (changes l.out)
