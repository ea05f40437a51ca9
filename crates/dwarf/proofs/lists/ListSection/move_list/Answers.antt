use Rattle.std.proofs.Common.{◌≡◌, ℕ, List, Result, refl, sym, subst}
use Rattle.std.specs.Prelude.{IfOk, IfErr}
use Rattle.dwarf_bytes.specs.declared.addresses.Address.{Address}
use Rattle.dwarf_bytes.specs.declared.addresses.AddressTable.{AddressTable}
use Rattle.dwarf_bytes.specs.declared.fault.DebugError.{DebugError}
use Rattle.dwarf_bytes.specs.declared.fault.DebugFault.{DebugFault}
use Rattle.dwarf_bytes.specs.Changes.{SectionChange}
use Rattle.dwarf_bytes.specs.Patches.{changes}
use Rattle.dwarf_bytes.specs.Uses.{told}
use Rattle.dwarf_info.proofs.Taking.{IsMemoryOr, other_fault}
use Rattle.dwarf.specs.declared.lists.ListKind.{ListKind}
use Rattle.dwarf.specs.declared.lists.PlacedList.{PlacedList}
use Rattle.dwarf.specs.PlacedLists.{ListsSetting, IsListMoved, IsListRefused}
use Rattle.dwarf.specs.PlacedListsViews.{lists_setting}
use Rattle.dwarf.proofs.PlacedLemmas.{if_ok}
use Rattle.dwarf.proofs.lists.ListSection.move_list.Goals as goal

module _ (is kind : ListKind) (e : kind ≡ is) (s : ListsSetting) (p : PlacedList) (before after : List SectionChange) (us now_us : List (Address × ℕ)) where
  moved_as : {E : Type 0} (r : Result ℕ E) (P : ℕ → Type 0) → ((end : ℕ) → P end → IsListMoved is s p end before after us now_us) → IfOk r P
      → IfOk r (λ end. IsListMoved kind s p end before after us now_us)
  moved_as r P f h = if_ok r P _ (λ end m. subst (λ (k : ListKind). IsListMoved k s p end before after us now_us) (sym e) (f end m)) h

  refused_as : (r : Result ℕ DebugError) (F : DebugFault → Type 0) → ((fault : DebugFault) → F fault → IsListRefused is s p before fault) → IfErr r (IsMemoryOr F)
      → IfErr r (IsMemoryOr (λ fault. IsListRefused kind s p before fault))
  refused_as r F f h = other_fault r F _ (λ fault m. subst (λ (k : ListKind). IsListRefused k s p before fault) (sym e) (f fault m)) h

pub returns-in-Ranges-clause-moved : goal.returns-in-Ranges-clause-moved
returns-in-Ranges-clause-moved c =
    moved_as _ _ c.in-Ranges.is (lists_setting c.args.self.now c.args.moves.now) c.args.list.now _ _ _ _ c.move_ranges.result _ (λ end m. (m, refl)) c.move_ranges.ensures.moved

pub returns-in-Ranges-clause-refused : goal.returns-in-Ranges-clause-refused
returns-in-Ranges-clause-refused c =
    refused_as _ _ c.in-Ranges.is (lists_setting c.args.self.now c.args.moves.now) c.args.list.now (changes c.args.patches.now) (changes c.args.patches.now) (told c.args.uses.now) (told c.args.uses.now) c.move_ranges.result _ (λ fault m. m) c.move_ranges.ensures.refused

pub returns-in-Locations-clause-moved : goal.returns-in-Locations-clause-moved
returns-in-Locations-clause-moved c =
    moved_as _ _ c.in-Locations.is (lists_setting c.args.self.now c.args.moves.now) c.args.list.now _ _ _ _ c.move_locations.result _ (λ end m. (m, refl)) c.move_locations.ensures.moved

pub returns-in-Locations-clause-refused : goal.returns-in-Locations-clause-refused
returns-in-Locations-clause-refused c =
    refused_as _ _ c.in-Locations.is (lists_setting c.args.self.now c.args.moves.now) c.args.list.now (changes c.args.patches.now) (changes c.args.patches.now) (told c.args.uses.now) (told c.args.uses.now) c.move_locations.result _ (λ fault m. m) c.move_locations.ensures.refused

pub returns-in-RangeLists-clause-moved : goal.returns-in-RangeLists-clause-moved
returns-in-RangeLists-clause-moved c =
    let p = c.args.list.now in
    let t : AddressTable = record { section = c.args.self.now.addresses; base = p.addresses; size = p.list.encoding.address_size } in
    moved_as _ _ c.in-RangeLists.is (lists_setting c.args.self.now c.args.moves.now) p _ _ _ _ c.move_range_list.result _ (λ end m. (t, refl, m)) c.move_range_list.ensures.moved

pub returns-in-RangeLists-clause-refused : goal.returns-in-RangeLists-clause-refused
returns-in-RangeLists-clause-refused c =
    let p = c.args.list.now in
    let t : AddressTable = record { section = c.args.self.now.addresses; base = p.addresses; size = p.list.encoding.address_size } in
    refused_as _ _ c.in-RangeLists.is (lists_setting c.args.self.now c.args.moves.now) p (changes c.args.patches.now) (changes c.args.patches.now) (told c.args.uses.now) (told c.args.uses.now) c.move_range_list.result _ (λ fault m. (t, refl, m)) c.move_range_list.ensures.refused

pub returns-in-LocationLists-clause-moved : goal.returns-in-LocationLists-clause-moved
returns-in-LocationLists-clause-moved c =
    let p = c.args.list.now in
    let t : AddressTable = record { section = c.args.self.now.addresses; base = p.addresses; size = p.list.encoding.address_size } in
    moved_as _ _ c.in-LocationLists.is (lists_setting c.args.self.now c.args.moves.now) p _ _ _ _ c.move_location_list.result _ (λ end m. (t, refl, m)) c.move_location_list.ensures.moved

pub returns-in-LocationLists-clause-refused : goal.returns-in-LocationLists-clause-refused
returns-in-LocationLists-clause-refused c =
    let p = c.args.list.now in
    let t : AddressTable = record { section = c.args.self.now.addresses; base = p.addresses; size = p.list.encoding.address_size } in
    refused_as _ _ c.in-LocationLists.is (lists_setting c.args.self.now c.args.moves.now) p (changes c.args.patches.now) (changes c.args.patches.now) (told c.args.uses.now) (told c.args.uses.now) c.move_location_list.result _ (λ fault m. (t, refl, m)) c.move_location_list.ensures.refused
