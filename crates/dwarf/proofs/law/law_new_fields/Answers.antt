use Rattle.dwarf.proofs.MacrosKeep.{macros_have_new_fields}
use Rattle.dwarf.proofs.NamesKeep.{names_have_new_fields}
use Rattle.dwarf.proofs.RangesKeep.{ranges_have_new_fields}
use Rattle.dwarf.proofs.law.law_new_fields.Goals as goal

pub returns-clause-names : goal.returns-clause-names
returns-clause-names c = names_have_new_fields

pub returns-clause-ranges : goal.returns-clause-ranges
returns-clause-ranges c = ranges_have_new_fields

pub returns-clause-macros : goal.returns-clause-macros
returns-clause-macros c = macros_have_new_fields
