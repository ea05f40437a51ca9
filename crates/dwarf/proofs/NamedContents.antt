-- The contents of the section of a name are those of the first one.
use Rattle.std.proofs.Common.{◌≡◌, ℕ, List, [], ◌∷◌, cond, eqb, inl, inr, refl, sym, ap, ◌∙◌}
use Rattle.std.proofs.lemmas.Bool.{eq-eqb, ne_eqb}
use Rattle.dwarf.specs.declared.sections.SectionName.{SectionName}
use Rattle.dwarf.specs.declared.sections.SectionName.TheVariants.{Info, Types, Abbreviations, Lines, Ranges, Locations, RangeLists, LocationLists, Addresses, AddressRanges, PublicNames, PublicTypes, GnuPublicNames, GnuPublicTypes, NameIndex, Macros, Unmoved, Unknown}
use Rattle.dwarf.specs.Sections.{NamedContents, AreContents, section_number, contents_named}

-- names that have one number are one
name_of : ℕ → SectionName
name_of n = cond (eqb n 0) Info (cond (eqb n 1) Types (cond (eqb n 2) Abbreviations (cond (eqb n 3) Lines (cond (eqb n 4) Ranges (cond (eqb n 5) Locations (cond (eqb n 6) RangeLists (cond (eqb n 7) LocationLists (cond (eqb n 8) Addresses (cond (eqb n 9) AddressRanges (cond (eqb n 10) PublicNames (cond (eqb n 11) PublicTypes (cond (eqb n 12) GnuPublicNames (cond (eqb n 13) GnuPublicTypes (cond (eqb n 14) NameIndex (cond (eqb n 15) Macros (cond (eqb n 16) Unmoved (Unknown)))))))))))))))))

name_again : (s : SectionName) → name_of (section_number s) ≡ s
unfolding name_of
name_again Info = refl
name_again Types = refl
name_again Abbreviations = refl
name_again Lines = refl
name_again Ranges = refl
name_again Locations = refl
name_again RangeLists = refl
name_again LocationLists = refl
name_again Addresses = refl
name_again AddressRanges = refl
name_again PublicNames = refl
name_again PublicTypes = refl
name_again GnuPublicNames = refl
name_again GnuPublicTypes = refl
name_again NameIndex = refl
name_again Macros = refl
name_again Unmoved = refl
name_again Unknown = refl

same_name : (a b : SectionName) → section_number a ≡ section_number b → a ≡ b
same_name a b e = sym (name_again a) ∙ ap name_of e ∙ name_again b

pub contents_are : (ss : List NamedContents) (name : SectionName) (bytes : List ℕ) → AreContents ss name bytes → bytes ≡ contents_named ss name
contents_are [] name bytes e = e
contents_are (s ∷ ss) name bytes (inl here) = rw (eq-eqb (section_number s.0) (section_number name) (ap section_number here.0)) here.1
contents_are (s ∷ ss) name bytes (inr later) = rw (ne_eqb (section_number s.0) (section_number name) (λ e. later.0 (same_name s.0 name e))) (contents_are ss name bytes later.1)
