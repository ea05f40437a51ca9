-- What becomes of the sections, step by step.
use Rattle.std.proofs.Common.{◌≡◌, ◌++◌, ◌∷◌, [], ℕ, Bool, true, false, List, Result, Ok, Err, inl, inr, refl, subst}
use Rattle.wasm_numbers.specs.Results.{◌>>=◌, each}
use Rattle.code_moves.specs.declared.body.Body.{Body}
use Rattle.dwarf_bytes.specs.declared.addresses.Address.{Address}
use Rattle.dwarf_bytes.specs.declared.fault.DebugFault.{DebugFault}
use Rattle.dwarf_bytes.specs.Changes.{SectionChange, are_resized}
use Rattle.dwarf_info.specs.declared.moved.ListUse.{ListUse}
use Rattle.dwarf_info.specs.declared.unit.UnitSection.{UnitSection}
use Rattle.dwarf_info.specs.Abbreviations.{AbbreviationsAt}
use Rattle.dwarf_info.specs.Following.{SectionShifts}
use Rattle.dwarf.specs.declared.lists.ListKind.{ListKind}
use Rattle.dwarf.specs.declared.sections.SectionName.{SectionName}
use Rattle.dwarf.specs.PlacedLists.{ListsSetting, AreListsReplaced, AreListsRefused, IsListSection, IsListSectionRefused}
use Rattle.dwarf.specs.Sections.{NamedContents, section_of_lists}
use Rattle.dwarf.specs.MovedDebug.{DebugSetting, EntriesOfModule, lists_used, setting_of_lists, shifting_changes, IsListSectionMoved, IsListSectionNotMoved, AreListSectionsMoved, IsUnitsSection, IsUnitsSectionRefused, section_followed, name_followers, name_sections_moved}

pub same_setting : (kind other : ListKind) (section same addresses more : List ℕ) (bodies : List Body) → kind ≡ other → section ≡ same → addresses ≡ more
    → (let s : ListsSetting = record { kind = kind; section = section; addresses = addresses; bodies = bodies } in s) ≡ record { kind = other; section = same; addresses = more; bodies = bodies }
same_setting kind other section same addresses more bodies e f g = rw (e, f, g) refl

-- ---- a section of lists

module _ (d : DebugSetting) (e : EntriesOfModule) (kind : ListKind) (s : ListsSetting) (uses others : List ListUse) (before : List (Address × ℕ)) (is : s ≡ setting_of_lists d kind)
    (first : uses ≡ lists_used kind e.info) (second : others ≡ lists_used kind e.types) where
  replaced_as : (cs : List SectionChange) (after : List (Address × ℕ)) → AreListsReplaced s uses others before cs after
      → AreListsReplaced (setting_of_lists d kind) (lists_used kind e.info) (lists_used kind e.types) before cs after
  replaced_as cs after h =
      subst (λ (t : ListsSetting). AreListsReplaced t (lists_used kind e.info) (lists_used kind e.types) before cs after) is
      (subst (λ (us : List ListUse). AreListsReplaced s us (lists_used kind e.types) before cs after) first (subst (λ (us : List ListUse). AreListsReplaced s uses us before cs after) second h))

  pub list_section_moved : (cs shifts : List SectionChange) (new : List ℕ) (after : List (Address × ℕ)) → AreListsReplaced s uses others before cs after → IsListSection s.kind s.section cs new → shifts ≡ shifting_changes cs
      → IsListSectionMoved d e kind before shifts new after
  list_section_moved cs shifts new after h written shift = (cs, replaced_as cs after h, subst (λ (t : ListsSetting). IsListSection t.kind t.section cs new) is written, shift)

  pub lists_unplaced : (fault : DebugFault) → AreListsRefused s uses others before fault → IsListSectionNotMoved d e kind before (section_of_lists kind) fault
  lists_unplaced fault h = (
    refl,
    inl (subst (λ (t : ListsSetting). AreListsRefused t (lists_used kind e.info) (lists_used kind e.types) before fault) is
        (subst (λ (us : List ListUse). AreListsRefused s us (lists_used kind e.types) before fault) first (subst (λ (us : List ListUse). AreListsRefused s uses us before fault) second h))),
  )

  pub list_section_unwritten : (cs : List SectionChange) (after : List (Address × ℕ)) (fault : DebugFault) → AreListsReplaced s uses others before cs after → IsListSectionRefused s.kind s.section cs fault
      → IsListSectionNotMoved d e kind before (section_of_lists kind) fault
  list_section_unwritten cs after fault h refused =
      (refl, inr (cs, after, replaced_as cs after h, subst (λ (t : ListsSetting). IsListSectionRefused t.kind t.section cs fault) is refused))

-- ---- more of them

module _ (d : DebugSetting) (e : EntriesOfModule) where
  pub no_section : (t : List (Address × ℕ)) → AreListSectionsMoved d e [] t [] [] t
  no_section t = (refl, refl, refl)

  pub more_sections : (kind : ListKind) (others : List ListKind) (before : List (Address × ℕ)) (first : List SectionChange) (new : List ℕ) (now : List (Address × ℕ)) (more : List (List SectionChange)) (news : List NamedContents) (after : List (Address × ℕ))
      → IsListSectionMoved d e kind before first new now → AreListSectionsMoved d e others now more news after
      → AreListSectionsMoved d e (kind ∷ others) before (first ∷ more) ((section_of_lists kind, new) ∷ news) after
  more_sections kind others before first new now more news after h rest = (first, new, now, more, news, h, rest, refl, refl)

-- ---- a section of units

module _ (section same : List ℕ) (kind : UnitSection) (a : List AbbreviationsAt) (shifts all : SectionShifts) (resizes whether : Bool) (own changed : List SectionChange) (e : section ≡ same) (f : shifts ≡ all) (g : resizes ≡ whether) (h : own ≡ changed) where
  pub units_as : (new : List ℕ) → IsUnitsSection section kind a shifts resizes own new → IsUnitsSection same kind a all whether changed new
  units_as new m =
      subst (λ (l : List ℕ). IsUnitsSection l kind a all whether changed new) e
      (subst (λ (s : SectionShifts). IsUnitsSection section kind a s whether changed new) f
      (subst (λ (b : Bool). IsUnitsSection section kind a shifts b changed new) g (subst (λ (cs : List SectionChange). IsUnitsSection section kind a shifts resizes cs new) h m)))

  pub units_refused_as : (fault : DebugFault) → IsUnitsSectionRefused section kind a shifts resizes own fault → IsUnitsSectionRefused same kind a all whether changed fault
  units_refused_as fault m =
      subst (λ (l : List ℕ). IsUnitsSectionRefused l kind a all whether changed fault) e
      (subst (λ (s : SectionShifts). IsUnitsSectionRefused section kind a s whether changed fault) f
      (subst (λ (b : Bool). IsUnitsSectionRefused section kind a shifts b changed fault) g (subst (λ (cs : List SectionChange). IsUnitsSectionRefused section kind a shifts resizes cs fault) h m)))

-- ---- names and the last sections

pub names_resized : (ss : List NamedContents) (cs : List SectionChange) → are_resized cs ≡ true → name_sections_moved ss cs ≡ each (section_followed ss) (name_followers cs)
names_resized ss cs e = rw e refl

pub names_stay : (ss : List NamedContents) (cs : List SectionChange) → are_resized cs ≡ false → name_sections_moved ss cs ≡ Ok []
names_stay ss cs e = rw e refl

abbrev LastOf : Result NamedContents (SectionName × DebugFault) → Result (List NamedContents) (SectionName × DebugFault) → Result NamedContents (SectionName × DebugFault) → Result (List NamedContents) (SectionName × DebugFault)
LastOf r q t = r >>= λ first. q >>= λ indices. t >>= λ last. Ok (first ∷ (indices ++ last ∷ []))

module _ (r : Result NamedContents (SectionName × DebugFault)) (q : Result (List NamedContents) (SectionName × DebugFault)) (t : Result NamedContents (SectionName × DebugFault)) where
  pub last_of : (a : NamedContents) (b : List NamedContents) (c : NamedContents) → r ≡ Ok a → q ≡ Ok b → t ≡ Ok c → LastOf r q t ≡ Ok (a ∷ (b ++ c ∷ []))
  last_of a b c e d f = rw (e, d, f) refl

  pub first_fails : (x : SectionName × DebugFault) → r ≡ Err x → LastOf r q t ≡ Err x
  first_fails x e = rw e refl

  pub names_fail : (a : NamedContents) (x : SectionName × DebugFault) → r ≡ Ok a → q ≡ Err x → LastOf r q t ≡ Err x
  names_fail a x e d = rw (e, d) refl

  pub last_fails : (a : NamedContents) (b : List NamedContents) (x : SectionName × DebugFault) → r ≡ Ok a → q ≡ Ok b → t ≡ Err x → LastOf r q t ≡ Err x
  last_fails a b x e d f = rw (e, d, f) refl
