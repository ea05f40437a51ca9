use Rattle.std.proofs.Common.{◌≡◌, ◌<◌, ℕ, List, map, drop, length, get_or, refl, Option, Err, inl, inr, ap, ◌∙◌}
use Rattle.std.proofs.lemmas.List.{drop_more}
use Rattle.std.proofs.lemmas.Result.{err_from_is_err_and}
use Rattle.dwarf_bytes.specs.declared.addresses.Address.{Address}
use Rattle.dwarf_bytes.specs.declared.addresses.AddressUse.{AddressUse}
use Rattle.dwarf_bytes.specs.declared.fault.DebugFault.{DebugFault}
use Rattle.dwarf_bytes.specs.Changes.{SectionChange}
use Rattle.dwarf_bytes.specs.Uses.{told_address, address_replaced, addresses_replaced}
use Rattle.dwarf_bytes.proofs.addresses.replaced.Goals as goal

fault_at : (before : Option (Address × ℕ)) (us : List AddressUse) (i : ℕ) (d : AddressUse) → i < length us → (cs : List SectionChange) (fault : DebugFault)
    → address_replaced before (told_address (get_or us i d)) cs ≡ Err fault → addresses_replaced before (map told_address (drop i us)) cs ≡ Err fault
fault_at before us i d within cs fault e = ap (λ (l : List AddressUse). addresses_replaced before (map told_address l) cs) (drop_more us i d within) ∙ rw e refl

pub returns-in_err-replace_address-clause-refused : goal.returns-in_err-replace_address-clause-refused
returns-in_err-replace_address-clause-refused c =
    let p = err_from_is_err_and c.from_residual.result c.from_residual.ensures.1 in
    rw (p.1, p.2) (elim c.in_err-replace_address.ensures.refused [
      | inl memory ↦ inl memory
      | inr x ↦ inr (x.0, x.1, c.each.invariant ∙ fault_at _ c.args.uses.now c.each.one-index _ c.each-test.true _ x.0 x.2)
    ])
