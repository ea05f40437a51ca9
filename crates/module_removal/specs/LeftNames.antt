-- What is left of the names of a module (WebAssembly core specification 3.0, custom sections, name section; the proposal for extended names).
use Rattle.std.specs.Prelude.{◌≡◌, ◌==◌, ◌-◌, ℕ, Bool, true, false, List, [], ◌∷◌, ◌++◌, length, Option, Some, None, Ok}
use Rattle.wasm_operators.specs.declared.types.Space.{Space}
use Rattle.wasm_operators.specs.declared.types.Space.TheVariants.{Types, Funcs, Tables, Memories, Globals, Tags, Elements, Data}
use Rattle.wasm_operators.specs.Types.{row_at}
use Rattle.wasm_sections.specs.Parts.{Part, ◌>=>◌, just, passed, extent, number, one_byte, bytes_part, repeated}
use Rattle.wasm_sections.specs.Sections.{section}
use Rattle.module_removal.specs.declared.code.LeftCode.{LeftCode}
use Rattle.module_removal.specs.declared.left.LeftItems.{LeftItems}
use Rattle.module_removal.specs.SeveralSteps.{SoManySteps}
use Rattle.module_removal.specs.LeftSpaces.{index_of}
use Rattle.module_removal.specs.CopiedParts.{item_at}
use Rattle.module_removal.specs.Entries.{with_entry, counted_bytes}
use Rattle.module_removal.specs.LeftParts.{ArePartsInOrder, LeavesParts}

-- ---- maps: of each item its index, and its name, or a map of names

abbrev pub name_entry_part : Part (Unit {0})
name_entry_part = number >=> λ index. passed bytes_part

abbrev pub name_map_part : Part (Unit {0})
name_map_part = number >=> λ count. repeated (λ u. name_entry_part) count tt

abbrev pub entry_value_part : (are_maps : Bool) → Part (Unit {0})
entry_value_part true = name_map_part
entry_value_part false = passed bytes_part

-- the next entry, if its item is left
abbrev pub next_map_entry : LeftItems → Space → (are_maps : Bool) → ℕ × List ℕ → Part (ℕ × List ℕ)
next_map_entry left space are_maps so =
    number >=> λ index. extent (entry_value_part are_maps) >=> λ value. just (with_entry (index_of left (item_at space index)) value so)

-- the entries that are left of a map, under the new indices
abbrev pub left_map : LeftItems → Space → (are_maps : Bool) → Part (List ℕ)
left_map left space are_maps =
    number >=> λ count. repeated (next_map_entry left space are_maps) count (0, []) >=> λ so. just (counted_bytes so)

-- ---- subsections

-- the index space of the items that a subsection names, by its id, and whether it has maps of names: of the fields of types
abbrev pub named_rows : List (ℕ × (Space × Bool))
named_rows =
    (1, (Funcs, false)) ∷
    (4, (Types, false)) ∷
    (5, (Tables, false)) ∷
    (6, (Memories, false)) ∷
    (7, (Globals, false)) ∷
    (8, (Elements, false)) ∷
    (9, (Data, false)) ∷
    (10, (Types, true)) ∷
    (11, (Tags, false)) ∷
    []

abbrev pub named_items : (id : ℕ) → Option (Space × Bool)
named_items id = row_at named_rows id

-- Of a subsection that names items the entries are left whose items are. Another one, such as that of labels, is left out.
abbrev pub LeavesMap : LeftItems → (id : ℕ) → Option (Space × Bool) → (end : ℕ) → (contents new : List ℕ) → Type 0
LeavesMap left id (Some named) end contents new =
    (made : List ℕ) × (following : List ℕ) × (left_map left named.0 named.1 end contents ≡ Ok (made, following)) × (new ≡ section id made)
LeavesMap left id None end contents new = new ≡ []

-- The names of locals follow the code.
abbrev pub LeavesLocals : LeftItems → LeftCode → (id end : ℕ) → (contents new : List ℕ) → Type 0
LeavesLocals left code id end contents new =
    (made : List ℕ) × (ArePartsInOrder code.locals.parts.items → LeavesParts left code.locals.parts.items end contents made) × (new ≡ section id made)

-- The name of the module stays.
abbrev pub LeavesSubsectionIf : (is_module are_locals : Bool) → LeftItems → LeftCode → (id end : ℕ) → (contents new : List ℕ) → Type 0
LeavesSubsectionIf true are_locals left code id end contents new = new ≡ section id contents
LeavesSubsectionIf false true left code id end contents new = LeavesLocals left code id end contents new
LeavesSubsectionIf false false left code id end contents new = LeavesMap left id (named_items id) end contents new

abbrev pub LeavesSubsection : LeftItems → LeftCode → (id end : ℕ) → (contents new : List ℕ) → Type 0
LeavesSubsection left code id end contents new = LeavesSubsectionIf (id == 0) (id == 2) left code id end contents new

-- a subsection: its id, and its contents after their size
abbrev pub subsection_part : Part (ℕ × List ℕ)
subsection_part = one_byte >=> λ id. bytes_part >=> λ contents. just (id, contents)

-- The next subsection, from what was written before.
abbrev pub LeavesNext : LeftItems → LeftCode → (end : ℕ) → (old new : List ℕ × List ℕ) → Type 0
LeavesNext left code end old new =
    (id : ℕ) × (contents : List ℕ) × (bytes : List ℕ) × (subsection_part end old.1 ≡ Ok ((id, contents), new.1))
    × LeavesSubsection left code id (end - length new.1) contents bytes × (new.0 ≡ old.0 ++ bytes)

-- All subsections, in order: these bytes are left of the text.
abbrev pub AreLeftNames : LeftItems → LeftCode → (end : ℕ) → (text new : List ℕ) → Type 0
AreLeftNames left code end text new = (count : ℕ) × SoManySteps (LeavesNext left code end) count ([], text) (new, [])
