-- The contents that are given for the sections of a module.
use Rattle.std.specs.Prelude.{ℕ, List, [], ◌∷◌, ◌==◌, if◌then◌else◌, Option, Some, None}
use Rattle.wasm_sections.specs.declared.changes.Changes.{Changes}
use Rattle.wasm_sections.specs.declared.changes.NewContents.{NewContents}
use Rattle.wasm_sections.specs.Sections.{section_id}

-- the contents that are given for the section with this id, if any
abbrev pub contents_in : List NewContents → (id : ℕ) → Option (List ℕ)
contents_in [] id = None
contents_in (g ∷ gs) id = if section_id g.kind == id then Some g.contents.items else contents_in gs id

-- the contents of a code section, or those of one without bodies
abbrev pub bodies_or_none : Option (List ℕ) → List ℕ
bodies_or_none (Some contents) = contents
bodies_or_none None = 0 ∷ []

-- the bodies that changes add to the code section, as the contents of one: their number, and each after its size
abbrev pub added_bodies : Changes → List ℕ
added_bodies changes = bodies_or_none (contents_in changes.given.items 10)
