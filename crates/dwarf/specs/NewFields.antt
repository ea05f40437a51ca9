-- Sections in which fields get new values of the same size: every other byte stays.
use Rattle.std.specs.Prelude.{◌≡◌, ◌⊎◌, ℕ, ◌+◌, ◌<◌, ◌≤◌, Bool, List, length, slice_get, Ok}
use Rattle.std.specs.List.{AllByRecursion}
use Rattle.code_moves.specs.declared.body.Body.{Body}
use Rattle.dwarf_bytes.specs.Changes.{SectionChange, AreChangesInOrder, end_from, patched}
use Rattle.dwarf_line.specs.declared.moved.Moved.{Moved}
use Rattle.dwarf_info.specs.declared.moved.CodeRange.{CodeRange}
use Rattle.dwarf.specs.AddressRanges.{code_followed}
use Rattle.dwarf.specs.Macros.{macro_section_followed}
use Rattle.dwarf.specs.Names.{names_followed}

-- The new section is the old one in which these fields, in order, have new values, each as many bytes. A byte that is in none of them
-- stays where it is.
pub record HasNewFields (section new : List ℕ) : Type 0 where
  pub fields : List SectionChange
  pub in_order : AreChangesInOrder 0 fields
  pub same_sizes : AllByRecursion (λ c. length c.new ≡ c.old) fields
  pub within : end_from 0 fields ≤ length section
  pub new_is : new ≡ patched fields section
  pub others_stay : (o : ℕ) → o < length section → AllByRecursion (λ c. (c.at + c.old ≤ o) ⊎ (o < c.at)) fields → slice_get new o ≡ slice_get section o

abbrev pub NamesHaveNewFields : Type 0
NamesHaveNewFields = (info : List SectionChange) (is_gnu : Bool) (section new : List ℕ) → names_followed info is_gnu section ≡ Ok new → HasNewFields section new

abbrev pub RangesHaveNewFields : Type 0
RangesHaveNewFields = (bodies : List Body) (code : List CodeRange) (info : List SectionChange) (section new : List ℕ) → code_followed bodies code info section ≡ Ok new → HasNewFields section new

abbrev pub MacrosHaveNewFields : Type 0
MacrosHaveNewFields = (tables : List Moved) (section new : List ℕ) → macro_section_followed tables section ≡ Ok new → HasNewFields section new
