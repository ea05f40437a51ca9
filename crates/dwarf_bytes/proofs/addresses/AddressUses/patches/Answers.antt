use Rattle.std.proofs.Common.{rules, arith, ◌≡◌, ◌⊎◌, [], ◌∷◌, ℕ, List, length, map, None, Result, Ok, Err, inl, inr, refl, sym, ap, subst, ◌∙◌}
use Rattle.std.specs.Prelude.{IfOk, IfErr}
use Rattle.std.proofs.lemmas.Result.{err_from_is_err_and}
use Rattle.dwarf_bytes.specs.declared.addresses.Address.{Address}
use Rattle.dwarf_bytes.specs.declared.addresses.AddressUse.{AddressUse}
use Rattle.dwarf_bytes.specs.declared.addresses.LongerTable.{LongerTable}
use Rattle.dwarf_bytes.specs.declared.fault.DebugError.{DebugError}
use Rattle.dwarf_bytes.specs.declared.fault.DebugError.TheVariants.{Memory, Fault}
use Rattle.dwarf_bytes.specs.declared.fault.DebugFault.{DebugFault}
use Rattle.dwarf_bytes.specs.declared.patches.Patches.{Patches}
use Rattle.dwarf_bytes.specs.Changes.{SectionChange}
use Rattle.dwarf_bytes.specs.Merging.{MergeSteps, AreAllMerged, IsFaultOfAll}
use Rattle.dwarf_bytes.specs.Patches.{changes}
use Rattle.dwarf_bytes.specs.Uses.{told_address, told, lengthened, addresses_replaced, longer_steps, places_told, steps_of_longer, AreAddressesReplaced, IsFaultOfAddresses}
use Rattle.dwarf_bytes.proofs.SortingLemmas.{sorted_by_calls, sorted_mapped}
use Rattle.dwarf_bytes.proofs.addresses.AddressUses.patches.Goals as goal
use Rattle.dwarf_bytes.proofs.addresses.AddressUses.patches.Goals.{In_ok-sort_by_key, In_ok-sort_by_key-2}

-- the addresses are sorted, and so are the tables
uses_sorted : (c : In_ok-sort_by_key) → map told_address c.sort_by_key.new.self.items ≡ places_told (told c.args.self.now)
uses_sorted c =
    ap (map told_address) (sorted_by_calls (λ (u : AddressUse). u.address.at) c.args.self.now.uses.items c.sort_by_key.new.self.items c.in_ok-sort_by_key.ensures.sorted c.in_ok-sort_by_key.ensures.stable (λ a r f k. search rules))
    ∙ sorted_mapped (λ (u : AddressUse). u.address.at) (λ (x : Address × ℕ). x.0.at) told_address (λ u. refl) c.args.self.now.uses.items

tables_sorted : (c : In_ok-sort_by_key-2) → longer_steps None c.sort_by_key-2.new.self.items ≡ steps_of_longer (lengthened c.args.self.now)
tables_sorted c =
    ap (longer_steps None)
    (sorted_by_calls (λ (t : LongerTable). t.end) c.args.self.now.longer.items c.sort_by_key-2.new.self.items c.in_ok-sort_by_key-2.ensures.sorted c.in_ok-sort_by_key-2.ensures.stable (λ a r f k. search rules))

module _ (xs : List (Address × ℕ)) (ls : List LongerTable) (first : List SectionChange) (e : addresses_replaced None (places_told xs) [] ≡ Ok first) (steps : MergeSteps) (is : steps ≡ steps_of_longer ls) where
  with_tables : {E : Type 0} (r : Result Patches E) → IfOk r (λ p. AreAllMerged first steps (changes p)) → IfOk r (λ p. AreAddressesReplaced xs ls (changes p))
  with_tables (Ok p) h = (first, e, subst (λ (ss : MergeSteps). AreAllMerged first ss (changes p)) is h)
  with_tables (Err f) h = h

  tables_refused : {A : Type 0} (r : Result A DebugError) → IfErr r (λ e. (e ≡ Memory) ⊎ ((fault : DebugFault) × (e ≡ Fault fault) × IsFaultOfAll first steps fault))
      → IfErr r (λ e. (e ≡ Memory) ⊎ ((fault : DebugFault) × (e ≡ Fault fault) × IsFaultOfAddresses xs ls fault))
  tables_refused (Ok x) h = h
  tables_refused (Err f) (inl memory) = inl memory
  tables_refused (Err f) (inr x) = inr (x.0, x.1, inr (first, e, subst (λ (ss : MergeSteps). IsFaultOfAll first ss x.0) is x.2))

no_items : (ls : List LongerTable) → length ls ≡ 0 → ls ≡ []
no_items [] e = refl
no_items (l ∷ ls) e = absurd (omega arith)

pub returns-in_err-first-clause-refused : goal.returns-in_err-first-clause-refused
returns-in_err-first-clause-refused c =
    let sorted = ap (map told_address) c.deref.ensures.value ∙ uses_sorted (goal.at.returns-in_err-first-clause-refused c).In_ok-sort_by_key in
    let p = err_from_is_err_and c.from_residual-in_err-first.result c.from_residual-in_err-first.ensures.1 in
    rw (p.1, p.2) (elim c.in_err-first.ensures.refused [
      | inl memory ↦ inl memory
      | inr x ↦ inr (x.0, x.1, inl (subst (λ (l : List (Address × ℕ)). addresses_replaced None l [] ≡ Err x.0) sorted x.2))
    ])

pub returns-then-is_empty-clause-replaced : goal.returns-then-is_empty-clause-replaced
returns-then-is_empty-clause-replaced c =
    let sorted = ap (map told_address) c.deref.ensures.value ∙ uses_sorted (goal.at.returns-then-is_empty-clause-replaced c).In_ok-sort_by_key in
    let first = changes c.in_ok-first.first in
    let e = subst (λ (l : List (Address × ℕ)). addresses_replaced None l [] ≡ Ok first) sorted c.in_ok-first.ensures.replaced in
    let len : c.sort_by_key-2.new.self.len ≡ 0 = search rules in
    let none = no_items c.sort_by_key-2.new.self.items (omega (arith, c.sort_by_key-2.new.self.ok.0, len)) in
    let steps : steps_of_longer (lengthened c.args.self.now) ≡ [] = sym (tables_sorted (goal.at.returns-then-is_empty-clause-replaced c).In_ok-sort_by_key-2) ∙ ap (longer_steps None) none in
    (first, e, ([], steps, refl))

pub returns-clause-replaced : goal.returns-clause-replaced
returns-clause-replaced c =
    let sorted = ap (map told_address) c.deref.ensures.value ∙ uses_sorted (goal.at.returns-clause-replaced c).In_ok-sort_by_key in
    let first = changes c.in_ok-first.first in
    let e = subst (λ (l : List (Address × ℕ)). addresses_replaced None l [] ≡ Ok first) sorted c.in_ok-first.ensures.replaced in
    with_tables (told c.args.self.now) (lengthened c.args.self.now) first e (longer_steps None c.deref-2.result.now)
    (ap (longer_steps None) c.deref-2.ensures.value ∙ tables_sorted (goal.at.returns-clause-replaced c).In_ok-sort_by_key-2) c.lengthened.result c.lengthened.ensures.replaced

pub returns-clause-refused : goal.returns-clause-refused
returns-clause-refused c =
    let sorted = ap (map told_address) c.deref.ensures.value ∙ uses_sorted (goal.at.returns-clause-refused c).In_ok-sort_by_key in
    let first = changes c.in_ok-first.first in
    let e = subst (λ (l : List (Address × ℕ)). addresses_replaced None l [] ≡ Ok first) sorted c.in_ok-first.ensures.replaced in
    tables_refused (told c.args.self.now) (lengthened c.args.self.now) first e (longer_steps None c.deref-2.result.now)
    (ap (longer_steps None) c.deref-2.ensures.value ∙ tables_sorted (goal.at.returns-clause-refused c).In_ok-sort_by_key-2) c.lengthened.result c.lengthened.ensures.refused
