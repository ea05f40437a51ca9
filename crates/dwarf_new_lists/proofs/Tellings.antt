-- What is told one after the other.
use Rattle.std.proofs.Common.{◌≡◌, ℕ, List, [], ◌∷◌, ◌++◌, Option, sym, ap, ◌∙◌, subst, append_assoc}
use Rattle.std.proofs.lemmas.List.{append-nil}
use Rattle.std.proofs.lemmas.List.Elements.{filter_map-append}
use Rattle.std.specs.List.{filter_map}
use Rattle.code_moves.specs.declared.body.Body.{Body}
use Rattle.dwarf_bytes.specs.declared.addresses.Address.{Address}
use Rattle.dwarf_bytes.specs.declared.addresses.AddressTable.{AddressTable}
use Rattle.dwarf_bytes.specs.Addresses.{address_at}
use Rattle.dwarf_new_lists.specs.Entries.{AnEntry}
use Rattle.dwarf_new_lists.specs.Sayings.{says_entry, next_base, base_after_entries}
use Rattle.dwarf_new_lists.specs.Tellings.{told_of_index, Tells, indices_of_code, code_indices}

module _ (bs : List Body) (t : AddressTable) where
  pub tells_none : (before : List (Address × ℕ)) → Tells bs t before before []
  tells_none before = sym (append-nil before)

  pub tells_both : (before middle after : List (Address × ℕ)) (is js : List ℕ) → Tells bs t before middle is → Tells bs t middle after js → Tells bs t before after (is ++ js)
  tells_both before middle after is js a b =
      let f = told_of_index bs t in
      b ∙ (ap (λ (l : List (Address × ℕ)). l ++ filter_map f js) a
      ∙ (append_assoc before (filter_map f is) (filter_map f js)
      ∙ ap (λ (l : List (Address × ℕ)). before ++ l) (sym (filter_map-append f is js))))

indices_more : (bs : List Body) (at : ℕ → Option ℕ) (base : ℕ) (es : List AnEntry) (e : AnEntry)
    → code_indices bs at base (es ++ e ∷ []) ≡ code_indices bs at base es ++ indices_of_code bs (says_entry at (base_after_entries at base es) e) e.kind e.one e.two
indices_more bs at base [] e = append-nil _
indices_more bs at base (x ∷ es) e =
    let first = indices_of_code bs (says_entry at base x) x.kind x.one x.two in
    let next = next_base base (says_entry at base x) in
    ap (λ (l : List ℕ). first ++ l) (indices_more bs at next es e) ∙ sym (append_assoc first (code_indices bs at next es) _)

-- what is told of one entry more
pub tells_more : (bs : List Body) (t : AddressTable) (base : ℕ) (before middle after : List (Address × ℕ)) (es : List AnEntry) (e : AnEntry) (old_base : ℕ) → old_base ≡ base_after_entries (address_at t) base es
    → Tells bs t before middle (code_indices bs (address_at t) base es) → Tells bs t middle after (indices_of_code bs (says_entry (address_at t) old_base e) e.kind e.one e.two)
    → Tells bs t before after (code_indices bs (address_at t) base (es ++ e ∷ []))
tells_more bs t base before middle after es e old_base is all one =
    let at = address_at t in
    let here = subst (λ (b : ℕ). Tells bs t middle after (indices_of_code bs (says_entry at b e) e.kind e.one e.two)) is one in
    subst (Tells bs t before after) (sym (indices_more bs at base es e)) (tells_both bs t before middle after (code_indices bs at base es) _ all here)
