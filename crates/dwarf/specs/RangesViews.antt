-- What ranges follow, as the code has it.
use Rattle.dwarf_bytes.specs.Patches.{changes}
use Rattle.dwarf.specs.declared.address_ranges.Ranges.{Ranges}
use Rattle.dwarf.specs.AddressRanges.{RangesFollowing, has_code}

abbrev pub ranges_following : Ranges → RangesFollowing
ranges_following r = record { bodies = r.moves.now.bodies.items; is_code = has_code r.code.now; info = changes r.info.now }
