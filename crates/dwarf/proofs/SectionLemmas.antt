-- Looking up a section by its name.
use Rattle.std.proofs.Common.{◌≡◌, ℕ, ◌+◌, ◌<◌, ◌≤◌, List, [], length, map, drop, get_or, Some, None, inl, inr, refl, subst, sym}
use Rattle.std.proofs.lemmas.List.{drop_more, drop_all}
use Rattle.dwarf.specs.declared.sections.SectionName.{SectionName}
use Rattle.dwarf.specs.Sections.{NamedContents, IsFirstNamed, AreContents}

-- What is true of the sections from this place on is true of all.
module _ {X : Type 0} (view : X → NamedContents) (name : SectionName) where
  pub record NotBefore {A : Type 0} (Is : List NamedContents → SectionName → A → Type 0) (xs : List X) (i : ℕ) : Type 0 where
    pub at : (found : A) → Is (map view (drop i xs)) name found → Is (map view xs) name found

  pub none_before : {A : Type 0} (Is : List NamedContents → SectionName → A → Type 0) (xs : List X) → NotBefore Is xs 0
  none_before Is xs = record { at = λ found h. h }

  module _ (xs : List X) (i : ℕ) (d : X) (within : i < length xs) where
    pub named_here : (so : NotBefore IsFirstNamed xs i) → (view (get_or xs i d)).0 ≡ name → IsFirstNamed (map view xs) name (Some (view (get_or xs i d)).1)
    named_here so is =
        so.at (Some (view (get_or xs i d)).1) (subst (λ (l : List X). IsFirstNamed (map view l) name (Some (view (get_or xs i d)).1)) (sym (drop_more xs i d within)) (inl (is, refl)))

    pub named_later : (so : NotBefore IsFirstNamed xs i) → ((view (get_or xs i d)).0 ≡ name → ⊥) → NotBefore IsFirstNamed xs (i + 1)
    named_later so other = record { at = λ found h. so.at found (subst (λ (l : List X). IsFirstNamed (map view l) name found) (sym (drop_more xs i d within)) (inr (other, h))) }

    pub contents_here : (so : NotBefore AreContents xs i) → (view (get_or xs i d)).0 ≡ name → AreContents (map view xs) name (view (get_or xs i d)).1
    contents_here so is =
        so.at (view (get_or xs i d)).1 (subst (λ (l : List X). AreContents (map view l) name (view (get_or xs i d)).1) (sym (drop_more xs i d within)) (inl (is, refl)))

    pub contents_later : (so : NotBefore AreContents xs i) → ((view (get_or xs i d)).0 ≡ name → ⊥) → NotBefore AreContents xs (i + 1)
    contents_later so other = record { at = λ found h. so.at found (subst (λ (l : List X). AreContents (map view l) name found) (sym (drop_more xs i d within)) (inr (other, h))) }

  module _ (xs : List X) (i : ℕ) (few : length xs ≤ i) where
    pub not_named : NotBefore IsFirstNamed xs i → IsFirstNamed (map view xs) name None
    not_named so = so.at None (subst (λ (l : List X). IsFirstNamed (map view l) name None) (sym (drop_all i xs few)) refl)

    pub no_contents : NotBefore AreContents xs i → AreContents (map view xs) name []
    no_contents so = so.at [] (subst (λ (l : List X). AreContents (map view l) name []) (sym (drop_all i xs few)) refl)
