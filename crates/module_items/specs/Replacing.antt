-- The contents of a section, and an item in them that is replaced or removed.
use Rattle.std.specs.Prelude.{◌≡◌, ℕ, Bool, true, false, List, length, option_map, Option, Some, None, Ok}
use Rattle.wasm_sections.specs.declared.changes.Changes.{Changes}
use Rattle.wasm_sections.specs.declared.sections.SectionKind.{SectionKind}
use Rattle.wasm_sections.specs.Additions.{AreUnchanged, SetsContents}
use Rattle.wasm_sections.specs.GivenContents.{contents_in}
use Rattle.wasm_sections.specs.Sections.{SectionAt, first_with, section_id}
use Rattle.module_items.specs.Items.{contents_replaced}

-- The contents of the section with this id in a module of these sections, with these changes, and the place where they end: those that
-- are given end at the number of their bytes.
abbrev pub given_or_source : (given : Option (List ℕ)) → (source : Option SectionAt) → Option (ℕ × List ℕ)
given_or_source (Some contents) source = Some (length contents, contents)
given_or_source None source = option_map (λ s. (s.end, s.contents)) source

abbrev pub placed_contents : (all : List SectionAt) → Changes → (id : ℕ) → Option (ℕ × List ℕ)
placed_contents all changes id = given_or_source (contents_in changes.given.items id) (first_with id all)

-- These contents are given for the section; or there is no such item, and all is as before.
abbrev pub IsGivenIf : (id : ℕ) → (made : Option (List ℕ)) → (old new : Changes) → (is_there : Bool) → Type 0
IsGivenIf id None old new is_there = (is_there ≡ false) × AreUnchanged old new
IsGivenIf id (Some contents) old new is_there = (is_there ≡ true) × SetsContents old new id contents

-- In these contents the item at this place gives way to so many items with these bytes, if there is such an item.
abbrev pub IsItemReplaced : SectionKind → (place more : ℕ) → (bytes : List ℕ) → (contents : Option (ℕ × List ℕ)) → (old new : Changes) → (is_there : Bool) → Type 0
IsItemReplaced kind place more bytes None old new is_there = (is_there ≡ false) × AreUnchanged old new
IsItemReplaced kind place more bytes (Some c) old new is_there =
    (made : Option (List ℕ)) × (contents_replaced kind place more bytes c.0 c.1 ≡ Ok made) × IsGivenIf (section_id kind) made old new is_there
