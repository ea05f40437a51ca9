use Rattle.std.proofs.Common.{◌≡◌, [], map, drop, option_map, None}
use Rattle.dwarf_bytes.specs.Patches.{changes}
use Rattle.dwarf_bytes.specs.Uses.{told_address, addresses_replaced}
use Rattle.dwarf_bytes.proofs.addresses.replaced.Given as goal

abbrev pub invariant-each : goal.invariant-each
invariant-each l =
    addresses_replaced None (map told_address l.uses) [] ≡ addresses_replaced (option_map told_address l.before) (map told_address (drop l.one-index l.uses)) (changes l.patches)
