use Rattle.std.proofs.Common.{rules, ◌≡◌, ℕ, List, subst}
use Rattle.dwarf_bytes.specs.declared.addresses.Address.{Address}
use Rattle.dwarf_bytes.specs.declared.addresses.LongerTable.{LongerTable}
use Rattle.dwarf_bytes.specs.Uses.{told, lengthened, IsFaultOfAddresses}
use Rattle.dwarf_info.proofs.Taking.{other_fault}
use Rattle.dwarf.specs.MovedDebug.{all_told, all_longer}
use Rattle.dwarf.specs.MovedDebugViews.{entries_of_module}
use Rattle.dwarf.proofs.moved_entries.move_addresses.Goals as goal

pub returns-clause-refused : goal.returns-clause-refused
returns-clause-refused c =
    let e = entries_of_module c.args.entries.now in
    let told_is : told c.add_all-2.new.self ≡ all_told e (told c.args.uses) = search rules in
    let longer_is : lengthened c.add_all-2.new.self ≡ all_longer e = search rules in
    other_fault c.patches.result _ _
    (λ fault h. subst (λ (xs : List (Address × ℕ)). IsFaultOfAddresses xs (all_longer e) fault) told_is (subst (λ (ls : List LongerTable). IsFaultOfAddresses (told c.add_all-2.new.self) ls fault) longer_is h))
    c.patches.ensures.refused
