use Rattle.std.proofs.Common.{◌≡◌, length}
use Rattle.dwarf_bytes.specs.Merging.{merging, none_merged}
use Rattle.dwarf_bytes.specs.Patches.{changes}
use Rattle.dwarf_info.specs.FollowViews.{section_shifts}
use Rattle.dwarf_info.specs.Views.{tables_of}
use Rattle.dwarf_info.proofs.FollowLemmas.{FollowingUnits}
use Rattle.dwarf_info.proofs.following.follow_units.Given as goal

abbrev pub invariant-units : goal.invariant-units
invariant-units l = record {
  so_far : FollowingUnits (record { kind = l.kind; tables = tables_of l.abbreviations; end = length l.section; shifts = section_shifts l.shifts; own = changes l.own })
      l.section (none_merged (changes l.own)) l.input.rest.now (merging l.out);
  same_end : l.input.end ≡ length l.section;
}

abbrev pub decreases-units : goal.decreases-units
decreases-units l = length l.input.rest.now
