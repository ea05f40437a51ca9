-- What is gathered of the sections of a module: from each item there is an edge to each that it names, and to or from an active segment
-- (WebAssembly core specification 3.0, binary format, modules).
use Rattle.std.specs.Prelude.{◌≡◌, ◌⊎◌, ◌<◌, ◌+◌, ◌==◌, ◌%◌, not, ℕ, Bool, true, false, List, [], ◌∷◌, ◌++◌, flat_map, option_and_then, Option, Some, None, Result, Ok}
use Rattle.wasm_operators.specs.declared.types.Space.{Space}
use Rattle.wasm_operators.specs.declared.types.Space.TheVariants.{Types, Funcs, Tables, Memories, Elements, Data}
use Rattle.wasm_operators.specs.Operations.{RawOperation}
use Rattle.reaching.specs.Reaching.{edges_of}
use Rattle.walrus_ir.specs.Types.{ModuleType, find, signature_of}
use Rattle.wasm_sections.specs.declared.fault.ModuleError.{ModuleError}
use Rattle.wasm_sections.specs.declared.sections.SectionKind.{SectionKind}
use Rattle.wasm_sections.specs.declared.sections.SectionKind.TheVariants as kind
use Rattle.wasm_sections.specs.Format.{types_part}
use Rattle.wasm_sections.specs.Parts.{Part, ◌>=>◌, just, number}
use Rattle.module_removal.specs.declared.bounds.Active.{Active}
use Rattle.module_removal.specs.declared.item.Item.{Item}
use Rattle.module_removal.specs.declared.item.ItemCounts.{ItemCounts}
use Rattle.module_removal.specs.declared.gathering.Gatherer.{Gatherer}
use Rattle.module_removal.specs.declared.references.References.{References}
use Rattle.module_removal.specs.LeftSpaces.{own_index}
use Rattle.module_removal.specs.ItemNumbers.{count_of, all_numbers, number_of_item, with_more_items}
use Rattle.module_removal.specs.CopiedParts.{Copied, item_at, copied_index}
use Rattle.module_removal.specs.CopiedItems.{copied_locals, copied_import, copied_export, copied_defined, copied_subtype}
use Rattle.module_removal.specs.Counting.{AreCountsOf}
use Rattle.module_removal.specs.Declaring.{taken_in_body, TakesFunctions, NamesFunctions, functions_if}
use Rattle.module_removal.specs.NamedItems.{named_by, OperatorsThen}
use Rattle.module_removal.specs.Edges.{RefersTo, ItemRefersTo, ReferToEachOther}
use Rattle.module_removal.specs.SeveralSteps.{SoManySteps}
use Rattle.module_removal.specs.ModuleSteps.{PartStep, ThroughVector, ThroughGroup, ThroughBodies, ContentsStep, ThroughSections}
use Rattle.module_removal.specs.Written.{section_space}

-- ---- active segments

-- the table or memory of a segment, if it is active: the one with the index, or the first one
abbrev pub target_of : Space → (is_active has_index : Bool) → Part (Option Item)
target_of space false has_index = just None
target_of space true false = just (Some (item_at space 0))
target_of space true true = number >=> λ i. just (Some (item_at space i))

abbrev pub element_target : Part (Option Item)
element_target = number >=> λ flags. target_of Tables ((flags % 2) == 0) ((flags % 4) == 2)

abbrev pub data_target : Part (Option Item)
data_target = number >=> λ flags. target_of Memories (not (flags == 1)) (flags == 2)

-- of an item of this space: only segments have one
abbrev pub defined_target : Space → Part (Option Item)
defined_target Elements = element_target
defined_target Data = data_target
defined_target _ = just None

abbrev pub item_of_active : Active → Item
item_of_active a = item_at a.space a.index

-- To an active segment there is an edge from the module itself, whose number is 0, or from its table or memory.
abbrev pub IsActivated : ItemCounts → (segment : ℕ) → (target : Option Item) → List (ℕ × ℕ) → Type 0
IsActivated c segment None es = es ≡ []
IsActivated c segment (Some target) es =
    (es ≡ (0, segment) ∷ []) ⊎ ((t : ℕ) × (number_of_item c target ≡ Some t) × (es ≡ (t, segment) ∷ []))

-- Such an edge is added.
pub record Activates (segment : ℕ) (target : Option Item) (old new : References) : Type 0 where
  pub counts : new.counts ≡ old.counts
  pub taken : new.taken ≡ old.taken
  pub edges : segment < all_numbers old.counts →
      (es : List (ℕ × ℕ)) × IsActivated old.counts segment target es × (edges_of new.graph ≡ edges_of old.graph ++ es)

-- ---- items

-- The part that is the next item of a space is read, with this value; from its number there are edges to all that it names, after the
-- edge of an active segment. It may declare functions.
pub record GathersNext {A : Type 0} (space : Space) (target : Option Item) (declares : Bool) (value : A) (part : Result ((A × Copied) × List ℕ) ModuleError)
    (following : List ℕ) (old new : Gatherer) : Type 0 where
  pub number : ℕ
  pub number_is : number_of_item old.references.counts (item_at space (count_of old.next space)) ≡ Some number
  pub next : new.next ≡ with_more_items space 1 old.next
  pub counts : new.references.counts ≡ old.references.counts
  pub finds : new.copier.left ≡ None
  pub copied : Copied
  pub read : part ≡ Ok ((value, copied), following)
  pub active : List (ℕ × ℕ)
  pub is_active : IsActivated old.references.counts number target active
  pub refers :
      RefersTo old.references.counts number copied.named (edges_of old.references.graph ++ active) (edges_of new.references.graph)
  pub declared : NamesFunctions (functions_if declares number copied.named) old.references.taken new.references.taken

-- The part is read, and from the module itself there are edges to all that it names. It may declare functions.
pub record GathersOwn (declares : Bool) (part : Result ((Unit {0} × Copied) × List ℕ) ModuleError) (following : List ℕ) (old new : Gatherer) : Type 0 where
  pub next : new.next ≡ old.next
  pub imported : new.imported ≡ old.imported
  pub counts : new.references.counts ≡ old.references.counts
  pub finds : new.copier.left ≡ None
  pub copied : Copied
  pub read : part ≡ Ok ((tt, copied), following)
  pub refers : RefersTo old.references.counts 0 copied.named (edges_of old.references.graph) (edges_of new.references.graph)
  pub declared : NamesFunctions (functions_if declares 0 copied.named) old.references.taken new.references.taken

-- The body of a function, whose text ends at this place, is read: from the function there are edges to all that the types of its locals
-- and its operators name, and it takes the functions to which these refer.
pub record GathersBody (func end : ℕ) (text : List ℕ) (old new : Gatherer) : Type 0 where
  pub next : new.next ≡ old.next
  pub imported : new.imported ≡ old.imported
  pub counts : new.references.counts ≡ old.references.counts
  pub finds : new.copier.left ≡ None
  pub number : ℕ
  pub number_is : number_of_item old.references.counts (item_at Funcs func) ≡ Some number
  pub locals : Copied
  pub rest : List ℕ
  pub read : copied_locals own_index end text ≡ Ok ((tt, locals), rest)
  pub operators : List RawOperation
  pub are : OperatorsThen end rest operators []
  pub refers :
      RefersTo old.references.counts number (locals.named ++ flat_map named_by operators) (edges_of old.references.graph)
      (edges_of new.references.graph)
  pub taken : TakesFunctions (flat_map (taken_in_body func) operators) old.references.taken new.references.taken

-- ---- the items of a section: steps, each from what was gathered and the bytes that are left

-- An import is the next item of its space. The number of imported functions is that of the functions so far.
abbrev pub GathersImport : PartStep Gatherer
GathersImport end old new =
    (space : Space) × GathersNext space None false space (copied_import own_index end old.1) new.1 old.0 new.0 × (new.0.imported ≡ new.0.next.funcs)

-- an item of this space that the module defines
abbrev pub GathersDefined : Space → PartStep Gatherer
GathersDefined space end old new =
    (target : Option Item) × (following : List ℕ) × (defined_target space end old.1 ≡ Ok (target, following))
    × GathersNext space target true tt (copied_defined own_index space end old.1) new.1 old.0 new.0 × (new.0.imported ≡ old.0.imported)

-- nothing of a section that has no items
abbrev pub GathersDefinedIf : Option Space → PartStep Gatherer
GathersDefinedIf (Some space) end old new = GathersDefined space end old new
GathersDefinedIf None end old new = new ≡ old

-- an item of a section of this kind
abbrev pub GathersItem : SectionKind → PartStep Gatherer
GathersItem kind.Import end old new = GathersImport end old new
GathersItem kind.Export end old new = GathersOwn true (copied_export own_index end old.1) new.1 old.0 new.0
GathersItem k end old new = GathersDefinedIf (section_space k) end old new

-- ---- types

-- The next type is one of a recursive group with this first type: the two refer to each other.
pub record GathersType (first end : ℕ) (old new : Gatherer × List ℕ) : Type 0 where
  pub own : Gatherer
  pub gathers : GathersNext Types None false tt (copied_subtype own_index end old.1) new.1 old.0 own
  pub imported : own.imported ≡ old.0.imported
  pub same : new.0 ≡ record own { references = new.0.references }
  pub counts : new.0.references.counts ≡ old.0.references.counts
  pub taken : new.0.references.taken ≡ own.references.taken
  pub grouped :
      ReferToEachOther old.0.references.counts (item_at Types first) (item_at Types old.0.next.types) (edges_of own.references.graph)
      (edges_of new.0.references.graph)

-- the types of a recursive group, of which the next one is the first
abbrev pub GathersGroup : PartStep Gatherer
GathersGroup end old new = ThroughGroup (GathersType old.0.next.types) end old new

-- the first function type with the parameters and results of this one, if it is one
abbrev pub first_alike : List ModuleType → (index : ℕ) → Option ℕ
first_alike types index = option_and_then (λ s. find types s.parameters s.results) (signature_of types index)

abbrev pub TypeRefersTo : ItemCounts → (from : ℕ) → (to : Option ℕ) → (old new : List (ℕ × ℕ)) → Type 0
TypeRefersTo c from (Some to) old new = ItemRefersTo c (item_at Types from) (item_at Types to) old new
TypeRefersTo c from None old new = new ≡ old

-- a step from the index of a type to the next one, and from the edges that were there
abbrev pub RefersToAlike : List ModuleType → ItemCounts → (old new : ℕ × List (ℕ × ℕ)) → Type 0
RefersToAlike types c old new = (new.0 ≡ old.0 + 1) × TypeRefersTo c old.0 (first_alike types old.0) old.1 new.1

-- Each function type refers to the first one that is alike.
abbrev pub ReferToAlike : List ModuleType → ItemCounts → (old new : List (ℕ × ℕ)) → Type 0
ReferToAlike types c old new = SoManySteps (RefersToAlike types c) c.types (0, old) (c.types, new)

pub record GathersAlike (end : ℕ) (text : List ℕ) (old new : Gatherer) : Type 0 where
  pub same : new ≡ record old { references = new.references }
  pub counts : new.references.counts ≡ old.references.counts
  pub taken : new.references.taken ≡ old.references.taken
  pub types : List ModuleType
  pub following : List ℕ
  pub read : types_part old.references.counts.types end text ≡ Ok (types, following)
  pub refer : ReferToAlike types old.references.counts (edges_of old.references.graph) (edges_of new.references.graph)

abbrev pub GathersTypes : (end : ℕ) → (text : List ℕ) → (old new : Gatherer) → Type 0
GathersTypes end text old new = (mid : Gatherer) × ThroughVector GathersGroup end text old mid × GathersAlike end text mid new

-- ---- sections

-- the module itself refers to the start function
abbrev pub GathersStart : (end : ℕ) → (text : List ℕ) → (old new : Gatherer) → Type 0
GathersStart end text old new = (following : List ℕ) × GathersOwn false (copied_index own_index Funcs end text) following old new

-- the contents of a section of this kind; the first body is that of the first function that isn't imported
abbrev pub GathersContents : ContentsStep Gatherer
GathersContents kind.Custom end text old new = new ≡ old
GathersContents kind.DataCount end text old new = new ≡ old
GathersContents kind.Type end text old new = GathersTypes end text old new
GathersContents kind.Code end text old new = ThroughBodies GathersBody old.imported end text old new
GathersContents kind.Start end text old new = GathersStart end text old new
GathersContents k end text old new = ThroughVector (GathersItem k) end text old new

-- Nothing is gathered yet.
pub record BeginsGathering (g : Gatherer) : Type 0 where
  pub next : (space : Space) → count_of g.next space ≡ 0
  pub imported : g.imported ≡ 0
  pub finds : g.copier.left ≡ None
  pub edges : edges_of g.references.graph ≡ []
  pub in_bodies : g.references.taken.in_bodies.items ≡ []
  pub outside : g.references.taken.outside.items ≡ []

-- The references are those of the items of a module with these bytes, and so are the counts.
abbrev pub AreReferencesOf : (bytes : List ℕ) → References → Type 0
AreReferencesOf bytes r =
    (old : Gatherer) × (new : Gatherer) × BeginsGathering old × ThroughSections GathersContents bytes old new × (r ≡ new.references)
    × AreCountsOf bytes r.counts
