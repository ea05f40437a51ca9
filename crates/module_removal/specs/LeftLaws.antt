-- What is left has no reference to what is removed, so that it can be copied.
use Rattle.std.specs.Prelude.{◌≡◌, ◌↔◌, ◌⊎◌, ◌+◌, ◌<◌, ◌-◌, ◌^◌, ℕ, min, Bool, true, List, [], ◌++◌, length, flat_map, Option, Some, None, Ok}
use Rattle.std.specs.List.{Contains}
use Rattle.wasm_operators.specs.declared.types.Space.{Space}
use Rattle.wasm_operators.specs.declared.types.Space.TheVariants.{Types, Funcs}
use Rattle.wasm_operators.specs.Operations.{RawOperation}
use Rattle.item_sets.specs.ItemsLeft.{is_left}
use Rattle.reaching.specs.Reaching.{edges_of, IsReachedFrom}
use Rattle.reaching.specs.Searching.{is_set}
use Rattle.wasm_sections.specs.declared.sections.SectionKind.{SectionKind}
use Rattle.wasm_sections.specs.declared.sections.SectionKind.TheVariants as kind
use Rattle.module_removal.specs.declared.declared.Named.{Named}
use Rattle.module_removal.specs.declared.declared.Taken.{Taken}
use Rattle.module_removal.specs.declared.item.Item.{Item}
use Rattle.module_removal.specs.declared.item.ItemCounts.{ItemCounts}
use Rattle.module_removal.specs.declared.left.LeftItems.{LeftItems}
use Rattle.module_removal.specs.declared.references.References.{References}
use Rattle.module_removal.specs.ItemNumbers.{count_of, first_number, all_numbers, with_more_items}
use Rattle.module_removal.specs.LeftSpaces.{own_index, marks_of, index_of, AreMarked}
use Rattle.module_removal.specs.CopiedParts.{Copied, CopiedPart, NewIndices, copied_index}
use Rattle.module_removal.specs.CopiedItems.{copied_import, copied_export, copied_defined, copied_subtype, copied_locals}
use Rattle.module_removal.specs.Declaring.{is_declared, undeclared_in}
use Rattle.module_removal.specs.NamedItems.{named_by, OperatorsThen}
use Rattle.module_removal.specs.Edges.{RefersTo}
use Rattle.module_removal.specs.Gathered.{AreReferencesOf}
use Rattle.module_removal.specs.ModuleSteps.{PartStep, ThroughVector, ThroughGroup, BodyStep, ThroughBodies, ContentsStep, ThroughSections}
use Rattle.module_removal.specs.Written.{section_space}

-- Each item that is named has a new index.
abbrev pub HaveIndices : NewIndices → List Item → Type 0
HaveIndices w items = (item : Item) → Contains items item → (i : ℕ) × (w item ≡ Some i)

-- If from an item that is reached there are edges to some items, these are left.
abbrev pub ReferencesAreLeft : Type 0
ReferencesAreLeft =
    (c : ItemCounts) (edges : List (ℕ × ℕ)) (roots : List ℕ) (marks : List Bool) (left : LeftItems) →
    ((x : ℕ) → (is_set marks x ≡ true) ↔ IsReachedFrom (min (all_numbers c) (2 ^ 64 - 1)) edges roots x) → AreMarked c marks left →
    (from : ℕ) (items : List Item) (before after : List (ℕ × ℕ)) → RefersTo c from items before after →
    ((e : ℕ × ℕ) → Contains after e → Contains edges e) → is_set marks from ≡ true → HaveIndices (index_of left) items

-- A part is copied if each item that it names has a new index; it names the same items, and the same bytes follow it.
abbrev pub IsCopied : {A : Type 0} → (part : NewIndices → CopiedPart A) → Type 0
IsCopied {A} part =
    (w : NewIndices) (end : ℕ) (text rest : List ℕ) (x : A) (found : Copied) → part own_index end text ≡ Ok ((x, found), rest) →
    HaveIndices w found.named → (copied : Copied) × (part w end text ≡ Ok ((x, copied), rest)) × (copied.named ≡ found.named)

-- So are the items of all sections, but of the code.
pub record ItemsAreCopied : Type 0 where
  pub imports : IsCopied copied_import
  pub defined : (space : Space) → IsCopied (λ w. copied_defined w space)
  pub exports : IsCopied copied_export
  pub start : IsCopied (λ w. copied_index w Funcs)
  pub types : IsCopied copied_subtype

-- ---- the sections of a module, copied under the indices of what is left

-- what was passed of a module: how many items, and how many of its functions are imported
pub record Passed : Type 0 where
  pub next : ItemCounts
  pub imported : ℕ

-- Nothing was passed.
pub record PassedNothing (p : Passed) : Type 0 where
  pub next : (space : Space) → count_of p.next space ≡ 0
  pub imported : p.imported ≡ 0

-- The part is read, and copied if the item with this index is left.
abbrev pub CopiesIfLeft : {A : Type 0} → LeftItems → Space → (index : ℕ) → (part : NewIndices → CopiedPart A) → (value : A) → (end : ℕ) → (text following : List ℕ) → Type 0
CopiesIfLeft left space index part value end text following =
    ((found : Copied) × (part own_index end text ≡ Ok ((value, found), following)))
    × (is_left (marks_of left space) index ≡ true → (copied : Copied) × (part (index_of left) end text ≡ Ok ((value, copied), following)))

-- The part is the next item of its space.
abbrev pub CopiesNext : {A : Type 0} → LeftItems → Space → (part : NewIndices → CopiedPart A) → (value : A) → PartStep Passed
CopiesNext left space part value end old new =
    (new.0.next ≡ with_more_items space 1 old.0.next) × CopiesIfLeft left space (count_of old.0.next space) part value end old.1 new.1

abbrev pub CopiesImport : LeftItems → PartStep Passed
CopiesImport left end old new = (space : Space) × CopiesNext left space copied_import space end old new × (new.0.imported ≡ new.0.next.funcs)

-- an item of this space that the module defines
abbrev pub CopiesDefined : LeftItems → Space → PartStep Passed
CopiesDefined left space end old new = CopiesNext left space (λ w. copied_defined w space) tt end old new × (new.0.imported ≡ old.0.imported)

abbrev pub CopiesDefinedIf : LeftItems → Option Space → PartStep Passed
CopiesDefinedIf left (Some space) end old new = CopiesDefined left space end old new
CopiesDefinedIf left None end old new = new ≡ old

abbrev pub CopiesType : LeftItems → PartStep Passed
CopiesType left end old new = CopiesNext left Types copied_subtype tt end old new × (new.0.imported ≡ old.0.imported)

-- The part is copied: it is an export, or the start function, which the module itself names.
abbrev pub CopiesOwn : CopiedPart (Unit {0}) → PartStep Passed
CopiesOwn part end old new = (new.0 ≡ old.0) × (copied : Copied) × (part end old.1 ≡ Ok ((tt, copied), new.1))

abbrev pub CopiesItem : LeftItems → SectionKind → PartStep Passed
CopiesItem left kind.Import end old new = CopiesImport left end old new
CopiesItem left kind.Export end old new = CopiesOwn (copied_export (index_of left)) end old new
CopiesItem left k end old new = CopiesDefinedIf left (section_space k) end old new

-- All that a body names has an index, if its function is left.
abbrev pub NamesLeft : LeftItems → BodyStep Passed
NamesLeft left func end body old new =
    (new ≡ old)
    × (is_left (marks_of left Funcs) func ≡ true → (locals : Copied) × (rest : List ℕ) × (operators : List RawOperation)
    × (copied_locals own_index end body ≡ Ok ((tt, locals), rest)) × OperatorsThen end rest operators []
    × HaveIndices (index_of left) (locals.named ++ flat_map named_by operators))

abbrev pub CopiesContents : LeftItems → ContentsStep Passed
CopiesContents left kind.Custom end text old new = new ≡ old
CopiesContents left kind.DataCount end text old new = new ≡ old
CopiesContents left kind.Type end text old new = ThroughVector (ThroughGroup (CopiesType left)) end text old new
CopiesContents left kind.Code end text old new = ThroughBodies (NamesLeft left) old.imported end text old new
CopiesContents left kind.Start end text old new = (following : List ℕ) × CopiesOwn (copied_index (index_of left) Funcs) end (old, text) (new, following)
CopiesContents left k end text old new = ThroughVector (CopiesItem left k) end text old new

-- What is reached from the module itself and others is left: then each item of the module that is left is copied.
abbrev pub LeftIsCopied : Type 0
LeftIsCopied =
    (bytes : List ℕ) (r : References) (roots : List ℕ) (marks : List Bool) (left : LeftItems) → AreReferencesOf bytes r → Contains roots 0 →
    ((x : ℕ) → (is_set marks x ≡ true) ↔ IsReachedFrom (length r.graph.last.items) (edges_of r.graph) roots x) → AreMarked r.counts marks left →
    (first : Passed) × (last : Passed) × PassedNothing first × ThroughSections (CopiesContents left) bytes first last

-- ---- references of functions

-- A function that is there, and of which the body of a function that is left takes a reference, is named by an item that is left, or is one
-- of those that have to be declared.
abbrev pub TakenAreDeclared : Type 0
TakenAreDeclared =
    (t : Taken) (c : ItemCounts) (marks : List Bool) (n : Named) → Contains t.in_bodies.items n → is_left marks (first_number c Funcs + n.by) ≡ true →
    n.func < c.funcs → (is_declared t.outside.items marks n.func ≡ true) ⊎ Contains (undeclared_in t c marks) n.func
