use Rattle.dwarf_info.proofs.Taking.{memory_or}
use Rattle.dwarf_info.proofs.entries.write_effect.Goals as goal

pub returns-in-Address-clause-refused : goal.returns-in-Address-clause-refused
returns-in-Address-clause-refused c = memory_or _ _ c.use_address.ensures.memory

pub returns-in-Ranges-clause-refused : goal.returns-in-Ranges-clause-refused
returns-in-Ranges-clause-refused c = memory_or _ _ c.use_ranges.ensures.memory

pub returns-in-Locations-clause-refused : goal.returns-in-Locations-clause-refused
returns-in-Locations-clause-refused c = memory_or _ _ c.use_locations.ensures.memory
