-- The entries of the table of a module's types, as types of the module.
use Rattle.std.specs.Prelude.{◌≡◌, List, Some, ⊤}
use Rattle.walrus_ir.specs.declared.module_types.TypeEntry.{TypeEntry}
use Rattle.walrus_ir.specs.declared.module_types.TypeEntry.TheVariants as entries
use Rattle.walrus_ir.specs.Types.{ModuleType, Func, Entry, Other, find}

abbrev pub module_type : TypeEntry → ModuleType
module_type (entries.Func params results first) = Func params.items results.items
module_type (entries.Entry results) = Entry results.items
module_type entries.Other = Other

-- a function type contains the id of the first function type with its lists
abbrev pub KnowsFirst : (types : List ModuleType) → TypeEntry → Type 0
KnowsFirst types (entries.Func params results first) = find types params.items results.items ≡ Some first
KnowsFirst types (entries.Entry results) = ⊤
KnowsFirst types entries.Other = ⊤
