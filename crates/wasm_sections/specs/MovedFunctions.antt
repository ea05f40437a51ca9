-- Sections in which the indices of functions are others, since functions are imported (WebAssembly core specification 3.0,
-- binary format, modules). Numbers of items, sizes of names, and indices are written in their shortest encodings; everything else
-- is the same.
use Rattle.std.specs.Prelude.{◌≡◌, ◌≢◌, ◌⊎◌, ◌+◌, ◌-◌, ◌<◌, ◌≤◌, ◌^◌, ◌%◌, ℕ, zero, suc, Bool, true, false, List, [], ◌∷◌, ◌++◌, length, get_or, ◌==◌, nat_lt, nat_le, if◌then◌else◌, Some, None, Ok}
use Rattle.std.specs.Ordering.{nat_cmp}
use Rattle.std.specs.FinMap.{FinMap, get, len}
use Rattle.wasm_numbers.specs.Numbers.{u32}
use Rattle.wasm_operators.specs.Operations.{RawOperation}
use Rattle.wasm_operators.specs.Shortest.{short_number}
use Rattle.wasm_operators.specs.Spelling.{Spells}
use Rattle.wasm_operators.specs.declared.types.Space.TheVariants.{Funcs}
use Rattle.walrus_maps.specs.declared.ids_to_indices.IdsToIndices.{IdsToIndices}
use Rattle.walrus_maps.specs.IndexMaps.{numbers_in, with_numbers, number_of}
use Rattle.wasm_sections.specs.declared.globals.GlobalType.{GlobalType}
use Rattle.wasm_body.specs.declared.error.IndexError.{IndexError}
use Rattle.wasm_body.specs.declared.error.IndexError.TheVariants as index
use Rattle.wasm_sections.specs.declared.sections.SectionKind.{SectionKind}
use Rattle.wasm_sections.specs.declared.spaces.Spaces.{Spaces}
use Rattle.wasm_sections.specs.declared.sections.SectionKind.TheVariants as section
use Rattle.wasm_sections.specs.CodeSections.{entry}
use Rattle.wasm_sections.specs.Parts.{Part}
use Rattle.wasm_sections.specs.Format.{global_type_part, table_front_part, element_flags_part, element_type_part}

-- the new index of a function: the first ones keep theirs, and all others come after those that are added
abbrev pub moved_function : (imported added index : ℕ) → ℕ
moved_function imported added index = if nat_lt index imported then index else index + added

-- The text begins with this part, which is written as it is.
abbrev pub CopiesPart : {A : Type 0} → Part A → (x : A) → (end : ℕ) → (text following old new : List ℕ) → Type 0
CopiesPart part x end text following old new =
    (front : List ℕ) × (part end text ≡ Ok (x, following)) × (text ≡ front ++ following) × (new ≡ old ++ front)

-- ---- items, one after the other

-- The text begins with so many items, these bytes follow them, and those are written for them.
abbrev pub AreMoved : (Moves : (text following written : List ℕ) → Type 0) → (count : ℕ) → (text following written : List ℕ) → Type 0
AreMoved Moves zero text following written = (text ≡ following) × (written ≡ [])
AreMoved Moves (suc count) text following written =
    (next first others : List ℕ) × Moves text next first × AreMoved Moves count next following others × (written ≡ first ++ others)

-- The text begins with a number of items and with the items.
pub record AreCounted (Moves : (text following written : List ℕ) → Type 0) (text following written : List ℕ) : Type 0 where
  pub count : ℕ
  pub items : List ℕ
  pub others : List ℕ
  pub count_is : u32 text ≡ Ok (count, items)
  pub are_moved : AreMoved Moves count items following others
  pub written_is : written ≡ short_number count ++ others

-- The text begins with the index of a function.
pub record MovesIndex (imported added : ℕ) (text following written : List ℕ) : Type 0 where
  pub index : ℕ
  pub index_is : u32 text ≡ Ok (index, following)
  pub written_is : written ≡ short_number (moved_function imported added index)

-- ---- exports

-- the new index of what an export of this kind names: the kind 0 is that of functions
abbrev pub moved_export : (imported added kind index : ℕ) → ℕ
moved_export imported added kind index = if kind == 0 then moved_function imported added index else index

-- The text begins with an export: its name, the kind of what it names, and the index of that.
pub record MovesExport (imported added : ℕ) (text following written : List ℕ) : Type 0 where
  pub name : List ℕ
  pub kind : ℕ
  pub index : ℕ
  pub indexed : List ℕ
  pub name_is : u32 text ≡ Ok (length name, name ++ kind ∷ indexed)
  pub index_is : u32 indexed ≡ Ok (index, following)
  pub written_is : written ≡ entry name ++ kind ∷ short_number (moved_export imported added kind index)

-- ---- constant expressions

-- The text begins with an instruction other than `end`: with `ref.func`, whose opcode is 0xd2, and the index of a function, or
-- with any other, which is written as it is.
pub data MovesInstruction (imported added : ℕ) : (text following written : List ℕ) → Type 0 where
  ref_func : {text following written : List ℕ} (indexed index : List ℕ)
      → text ≡ 0xd2 ∷ indexed → MovesIndex imported added indexed following index → written ≡ 0xd2 ∷ index
      → MovesInstruction imported added text following written
  other : {text following written : List ℕ} (o : RawOperation)
      → get_or text 0 0 ≢ 0xd2 → get_or text 0 0 ≢ 0x0b → Spells o written → text ≡ written ++ following
      → MovesInstruction imported added text following written

-- The text begins with a constant expression: instructions, and `end`, whose opcode is 0x0b.
pub data MovesConstant (imported added : ℕ) : (text following written : List ℕ) → Type 0 where
  last : {text following written : List ℕ} → text ≡ 0x0b ∷ following → written ≡ 0x0b ∷ [] → MovesConstant imported added text following written
  before : {text following written : List ℕ} (after first others : List ℕ)
      → MovesInstruction imported added text after first → MovesConstant imported added after following others → written ≡ first ++ others
      → MovesConstant imported added text following written

-- The text begins with an operator of such an expression: the last one, or another.
abbrev pub MovesOperator : (imported added : ℕ) → (is_last : Bool) → (text following written : List ℕ) → Type 0
MovesOperator imported added true text following written = (text ≡ 0x0b ∷ following) × (written ≡ 0x0b ∷ [])
MovesOperator imported added false text following written = MovesInstruction imported added text following written

-- The text begins with a constant expression if one is there.
abbrev pub MovesConstantIf : (imported added : ℕ) → (is_there : Bool) → (text following written : List ℕ) → Type 0
MovesConstantIf imported added true text following written = MovesConstant imported added text following written
MovesConstantIf imported added false text following written = (text ≡ following) × (written ≡ [])

-- The text, wherever it ends, begins with a global: its type, which is written as it is, and a constant expression.
pub record MovesGlobal (imported added : ℕ) (text following written : List ℕ) : Type 0 where
  pub end : ℕ
  pub type : GlobalType
  pub initial : List ℕ
  pub front : List ℕ
  pub others : List ℕ
  pub type_is : global_type_part end text ≡ Ok (type, initial)
  pub parts : text ≡ front ++ initial
  pub constant : MovesConstant imported added initial following others
  pub written_is : written ≡ front ++ others

-- The text, wherever it ends, begins with a table: what comes before its initial value, which is written as it is, and the initial
-- value, if it has one.
pub record MovesTable (imported added : ℕ) (text following written : List ℕ) : Type 0 where
  pub end : ℕ
  pub has_initial : Bool
  pub initial : List ℕ
  pub front : List ℕ
  pub others : List ℕ
  pub front_is : table_front_part end text ≡ Ok (has_initial, initial)
  pub parts : text ≡ front ++ initial
  pub initial_is : MovesConstantIf imported added has_initial initial following others
  pub written_is : written ≡ front ++ others

-- ---- element segments

-- The text begins with an element: with an expression, or with the index of a function.
abbrev pub MovesElement : (imported added : ℕ) → (are_expressions : Bool) → (text following written : List ℕ) → Type 0
MovesElement imported added true text following written = MovesConstant imported added text following written
MovesElement imported added false text following written = MovesIndex imported added text following written

-- The text, wherever it ends, begins with an element segment: its flags and the index of its table, which are written as they are; its
-- offset, where bit 0 of the flags is clear; the kind or the type of its elements, which is written as it is; and its elements, which
-- are expressions from flag 4 on.
pub record MovesSegment (imported added : ℕ) (text following written : List ℕ) : Type 0 where
  pub end : ℕ
  pub flags : ℕ
  pub front : List ℕ
  pub after_flags : List ℕ
  pub offset : List ℕ
  pub after_offset : List ℕ
  pub type : List ℕ
  pub after_type : List ℕ
  pub elements : List ℕ
  pub flags_are : element_flags_part end text ≡ Ok (flags, after_flags)
  pub front_is : text ≡ front ++ after_flags
  pub offset_is : MovesConstantIf imported added ((flags % 2) == 0) after_flags after_offset offset
  pub type_are : element_type_part flags end after_offset ≡ Ok (tt, after_type)
  pub type_is : after_offset ≡ type ++ after_type
  pub elements_are : AreCounted (MovesElement imported added (nat_le 4 flags)) after_type following elements
  pub written_is : written ≡ front ++ (offset ++ (type ++ elements))

-- ---- sections

-- The text begins with the contents of a section of this kind, these bytes follow them, and what is written for them is appended
-- to `old`. The contents are the index of the start function, exports, globals, tables, or, of any other kind, element segments.
abbrev pub MovesContents : (imported added : ℕ) → SectionKind → (text following old new : List ℕ) → Type 0
MovesContents imported added section.Start text following old new =
    (written : List ℕ) × MovesIndex imported added text following written × (new ≡ old ++ written)
MovesContents imported added section.Export text following old new =
    (written : List ℕ) × AreCounted (MovesExport imported added) text following written × (new ≡ old ++ written)
MovesContents imported added section.Global text following old new =
    (written : List ℕ) × AreCounted (MovesGlobal imported added) text following written × (new ≡ old ++ written)
MovesContents imported added section.Table text following old new =
    (written : List ℕ) × AreCounted (MovesTable imported added) text following written × (new ≡ old ++ written)
MovesContents imported added _ text following old new =
    (written : List ℕ) × AreCounted (MovesSegment imported added) text following written × (new ≡ old ++ written)

-- the whole contents, and the new contents
abbrev pub AreMovedContents : (imported added : ℕ) → SectionKind → (old new : List ℕ) → Type 0
AreMovedContents imported added k old new = MovesContents imported added k old [] [] new

-- ---- imports

-- an import of a function, as it is written: the name of its module, its own name, the kind 0, and the index of its type
abbrev pub import_of : (from name : List ℕ) → (type : ℕ) → List ℕ
import_of from name type = entry from ++ (entry name ++ 0 ∷ short_number type)

-- ---- indices of ids

-- Functions with these ids, from `first` on and before `end`, got the next numbers in order. No other number changed.
pub record ArePushed (first end : ℕ) (old new : FinMap nat_cmp ℕ) : Type 0 where
  pub count : len new ≡ len old + (end - first)
  pub numbers : (id : ℕ) → first ≤ id → id < end → get new id ≡ Some (len old + (id - first))
  pub lower : (id : ℕ) → id < first → get new id ≡ get old id
  pub higher : (id : ℕ) → end ≤ id → get new id ≡ get old id

-- None of these functions has a number.
abbrev pub AreUnnumbered : (first end : ℕ) → FinMap nat_cmp ℕ → Type 0
AreUnnumbered first end numbers = (first ≤ end) × ((id : ℕ) → first ≤ id → id < end → get numbers id ≡ None)

-- why these functions don't get numbers: memory ran out, or more than 2^32 functions would have one
abbrev pub NoNumbersFor : (first end : ℕ) → FinMap nat_cmp ℕ → IndexError → Type 0
NoNumbersFor first end numbers e = (e ≡ index.Memory) ⊎ ((e ≡ index.TooMany) × (2 ^ 32 < len numbers + (end - first)))

-- The functions of the source, of which so many are imported, have these written indices, and so have those that are imported
-- besides, whose ids come after all others.
pub record AreRenumbered (total imported added : ℕ) (m : IdsToIndices) : Type 0 where
  pub source : (id : ℕ) → id < total → number_of m Funcs id ≡ Ok (moved_function imported added id)
  pub more : (id : ℕ) → id < added → number_of m Funcs (total + id) ≡ Ok (imported + id)

-- Why no further function is imported: memory ran out, or there would be more than 2^32 functions. A source has at least as many
-- functions as it imports.
abbrev pub NoImportMore : (total imported added : ℕ) → IndexError → Type 0
NoImportMore total imported added e =
    (e ≡ index.Memory) ⊎ ((e ≡ index.TooMany) × ((total < imported) ⊎ (2 ^ 32 < total + added)))

-- One more function is imported: functions have the indices that follow, and all else stays.
pub record ImportsOneMore (total imported : ℕ) (old new : Spaces) : Type 0 where
  pub indices : new.indices ≡ old.indices
  pub numbers : AreRenumbered total imported (old.more_imports + 1) new.numbers
  pub others : new.numbers ≡ with_numbers Funcs (numbers_in new.numbers Funcs) old.numbers
  pub counts : new.counts ≡ old.counts
  pub more_imports : new.more_imports ≡ old.more_imports + 1
  pub more_functions : new.more_functions ≡ old.more_functions
  pub locals : new.locals ≡ old.locals
