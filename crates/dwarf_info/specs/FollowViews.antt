-- What offsets follow, as the code has it.
use Rattle.dwarf_bytes.specs.Patches.{changes}
use Rattle.dwarf_info.specs.declared.following.Following.{Following}
use Rattle.dwarf_info.specs.declared.following.Shifts.{Shifts}
use Rattle.dwarf_info.specs.Following.{SectionShifts, FollowSetting}
use Rattle.dwarf_info.specs.UnitViews.{unit_of}

abbrev pub section_shifts : Shifts → SectionShifts
section_shifts s = record {
  info = changes s.info.now;
  ranges = changes s.ranges.now;
  locations = changes s.locations.now;
  range_lists = changes s.range_lists.now;
  location_lists = changes s.location_lists.now;
  addresses = changes s.addresses.now;
}

abbrev pub follow_setting : Following → FollowSetting
follow_setting f = record { shifts = section_shifts f.shifts; own = changes f.own.now; unit = unit_of f.unit }
