-- What is gathered grows: the copier still finds what is named, the counts stay, and edges come after those that were there.
use Rattle.std.proofs.Common.{◌≡◌, ℕ, zero, suc, ◌+◌, Bool, true, false, List, [], ◌∷◌, ◌++◌, length, Option, Some, None, Result, refl, sym, ap, subst, ◌∙◌, append_assoc}
use Rattle.std.proofs.lemmas.List.{append-nil}
use Rattle.reaching.specs.Reaching.{edges_of}
use Rattle.walrus_ir.specs.Types.{ModuleType}
use Rattle.wasm_operators.specs.declared.types.Space.{Space}
use Rattle.wasm_operators.specs.declared.types.Space.TheVariants as spaces
use Rattle.wasm_sections.specs.declared.fault.ModuleError.{ModuleError}
use Rattle.wasm_sections.specs.declared.sections.SectionKind.{SectionKind}
use Rattle.wasm_sections.specs.declared.sections.SectionKind.TheVariants as kind
use Rattle.module_removal.specs.declared.item.Item.{Item}
use Rattle.module_removal.specs.declared.item.ItemCounts.{ItemCounts}
use Rattle.module_removal.specs.declared.gathering.Gatherer.{Gatherer}
use Rattle.module_removal.specs.CopiedParts.{Copied}
use Rattle.module_removal.specs.Edges.{edges_from}
use Rattle.module_removal.specs.Gathered.{GathersNext, GathersOwn, GathersBody, GathersDefinedIf, GathersItem, GathersType, GathersGroup, TypeRefersTo, RefersToAlike, GathersAlike, GathersTypes, GathersContents, first_alike}
use Rattle.module_removal.specs.ModuleSteps.{PartStep, ThroughVector, OverBody, ThroughBodies, OverSection, ThroughSections}
use Rattle.module_removal.specs.SeveralSteps.{SoManySteps}

-- ---- steps

-- what each step keeps is kept by all
pub kept_by_steps :
    {S : Type 0} (Step : S → S → Type 0) (P : S → Type 0) → ((a b : S) → Step a b → P a → P b) → (n : ℕ) (a b : S) → SoManySteps Step n a b → P a → P b
unfolding SoManySteps
kept_by_steps Step P keeps zero a b steps p = subst P (sym steps) p
kept_by_steps Step P keeps (suc n) a b steps p = kept_by_steps Step P keeps n steps.0 b steps.2 (keeps a steps.0 steps.1 p)

-- ---- edges

abbrev pub Edges : Type 0
Edges = List (ℕ × ℕ)

abbrev pub ExtendsEdges : (old new : Edges) → Type 0
ExtendsEdges old new = (more : Edges) × (new ≡ old ++ more)

pub same_edges : (a b : Edges) → b ≡ a → ExtendsEdges a b
same_edges a b e = ([], e ∙ sym (append-nil a))

pub edges_then : (a b d : Edges) → ExtendsEdges a b → ExtendsEdges b d → ExtendsEdges a d
edges_then a b d p q = (p.0 ++ q.0, q.1 ∙ ap (λ (l : Edges). l ++ q.0) p.1 ∙ append_assoc a p.0 q.0)

abbrev pub edges_in : Gatherer → Edges
edges_in g = edges_of g.references.graph

-- ---- what is gathered

pub record Grows (old new : Gatherer) : Type 0 where
  pub finds : old.copier.left ≡ None → new.copier.left ≡ None
  pub counts : new.references.counts ≡ old.references.counts
  pub edges : ExtendsEdges (edges_in old) (edges_in new)

grows_none : (old new : Gatherer) → new ≡ old → Grows old new
grows_none old new e = record {
  finds = λ none. ap (λ (g : Gatherer). g.copier.left) e ∙ none;
  counts = ap (λ (g : Gatherer). g.references.counts) e;
  edges = same_edges (edges_in old) (edges_in new) (ap (λ (g : Gatherer). edges_in g) e);
}

grows_then : (a b d : Gatherer) → Grows a b → Grows b d → Grows a d
grows_then a b d p q = record {
  finds = λ none. q.finds (p.finds none);
  counts = q.counts ∙ p.counts;
  edges = edges_then (edges_in a) (edges_in b) (edges_in d) p.edges q.edges;
}

all_grow :
    {A : Type 0} (Step : Gatherer × A → Gatherer × A → Type 0) → ((a b : Gatherer × A) → Step a b → Grows a.0 b.0) → (n : ℕ) (old new : Gatherer × A) →
    SoManySteps Step n old new → Grows old.0 new.0
all_grow Step grows n old new steps =
    kept_by_steps Step (λ s. Grows old.0 s.0) (λ a b step so. grows_then old.0 a.0 b.0 so (grows a b step)) n old new steps (grows_none old.0 old.0 refl)

-- ---- items

pub next_grows :
    {A : Type 0} (space : Space) (target : Option Item) (declares : Bool) (value : A) (part : Result ((A × Copied) × List ℕ) ModuleError) (following : List ℕ) (old new : Gatherer) →
    GathersNext space target declares value part following old new → Grows old new
next_grows space target declares value part following old new g = record {
  finds = λ none. g.finds;
  counts = g.counts;
  edges =
      edges_then (edges_in old) (edges_in old ++ g.active) (edges_in new) (g.active, refl) (edges_from g.number g.refers.numbers, g.refers.edges);
}

pub own_grows :
    (declares : Bool) (part : Result ((Unit {0} × Copied) × List ℕ) ModuleError) (following : List ℕ) (old new : Gatherer) → GathersOwn declares part following old new → Grows old new
own_grows declares part following old new g =
    record { finds = λ none. g.finds; counts = g.counts; edges = (edges_from 0 g.refers.numbers, g.refers.edges) }

pub body_grows : (func end : ℕ) (text : List ℕ) (old new : Gatherer) → GathersBody func end text old new → Grows old new
body_grows func end text old new g =
    record { finds = λ none. g.finds; counts = g.counts; edges = (edges_from g.number g.refers.numbers, g.refers.edges) }

defined_if_grows : (space : Option Space) (end : ℕ) (old new : Gatherer × List ℕ) → GathersDefinedIf space end old new → Grows old.0 new.0
defined_if_grows (Some space) end old new g = next_grows space g.0 true tt _ new.1 old.0 new.0 g.3
defined_if_grows None end old new g = grows_none old.0 new.0 (ap (λ (s : Gatherer × List ℕ). s.0) g)

pub item_grows : (k : SectionKind) (end : ℕ) (old new : Gatherer × List ℕ) → GathersItem k end old new → Grows old.0 new.0
item_grows kind.Import end old new g = next_grows g.0 None false g.0 _ new.1 old.0 new.0 g.1
item_grows kind.Export end old new g = own_grows true _ new.1 old.0 new.0 g
item_grows kind.Custom end old new g = defined_if_grows None end old new g
item_grows kind.Type end old new g = defined_if_grows None end old new g
item_grows kind.Start end old new g = defined_if_grows None end old new g
item_grows kind.DataCount end old new g = defined_if_grows None end old new g
item_grows kind.Code end old new g = defined_if_grows None end old new g
item_grows kind.Function end old new g = defined_if_grows (Some spaces.Funcs) end old new g
item_grows kind.Table end old new g = defined_if_grows (Some spaces.Tables) end old new g
item_grows kind.Memory end old new g = defined_if_grows (Some spaces.Memories) end old new g
item_grows kind.Tag end old new g = defined_if_grows (Some spaces.Tags) end old new g
item_grows kind.Global end old new g = defined_if_grows (Some spaces.Globals) end old new g
item_grows kind.Element end old new g = defined_if_grows (Some spaces.Elements) end old new g
item_grows kind.Data end old new g = defined_if_grows (Some spaces.Data) end old new g

pub vector_grows :
    (Step : PartStep Gatherer) → ((end : ℕ) (a b : Gatherer × List ℕ) → Step end a b → Grows a.0 b.0) → (end : ℕ) (text : List ℕ) (old new : Gatherer) →
    ThroughVector Step end text old new → Grows old new
vector_grows Step grows end text old new g = all_grow (Step end) (grows end) g.0 (old, g.1) (new, g.2) g.4

-- ---- types

pub type_grows : (first end : ℕ) (old new : Gatherer × List ℕ) → GathersType first end old new → Grows old.0 new.0
type_grows first end old new g =
    let to = g.grouped.1 in
    let from = g.grouped.2 in
    let own = next_grows _ None false tt _ new.1 old.0 g.own g.gathers in
    record {
      finds = λ none. ap (λ (h : Gatherer). h.copier.left) g.same ∙ g.gathers.finds;
      counts = g.counts;
      edges =
          edges_then (edges_in old.0) (edges_in g.own) (edges_in new.0) own.edges
          (edges_then (edges_in g.own) g.grouped.0 (edges_in new.0) ((to.0, to.1) ∷ [], to.4) ((from.0, from.1) ∷ [], from.4));
    }

pub group_grows : (end : ℕ) (old new : Gatherer × List ℕ) → GathersGroup end old new → Grows old.0 new.0
group_grows end old new g =
    let first = old.0.next.types in
    all_grow (GathersType first end) (type_grows first end) g.0 (old.0, g.1) new g.3

alike_extends :
    (types : List ModuleType) (c : ItemCounts) (from : ℕ) (to : Option ℕ) (old new : Edges) → TypeRefersTo c from to old new → ExtendsEdges old new
alike_extends types c from (Some to) old new r = ((r.0, r.1) ∷ [], r.4)
alike_extends types c from None old new r = same_edges old new r

pub alike_grows : (end : ℕ) (text : List ℕ) (old new : Gatherer) → GathersAlike end text old new → Grows old new
alike_grows end text old new g =
    let c = old.references.counts in
    record {
      finds = λ none. ap (λ (h : Gatherer). h.copier.left) g.same ∙ none;
      counts = g.counts;
      edges =
          kept_by_steps (RefersToAlike g.types c) (λ s. ExtendsEdges (edges_in old) s.1)
          (λ a b step so. edges_then (edges_in old) a.1 b.1 so (alike_extends g.types c a.0 (first_alike g.types a.0) a.1 b.1 step.1)) c.types (0, edges_in old)
          (c.types, edges_in new) g.refer (same_edges (edges_in old) (edges_in old) refl);
    }

pub types_grow : (end : ℕ) (text : List ℕ) (old new : Gatherer) → GathersTypes end text old new → Grows old new
types_grow end text old new g =
    grows_then old g.0 new (vector_grows GathersGroup group_grows end text old g.0 g.1) (alike_grows end text g.0 new g.2)

-- ---- bodies and sections

pub bodies_grow : (first end : ℕ) (text : List ℕ) (old new : Gatherer) → ThroughBodies GathersBody first end text old new → Grows old new
bodies_grow first end text old new g =
    all_grow {A = ℕ × List ℕ} (OverBody GathersBody end) (λ a b step. body_grows a.1.0 _ step.0 a.0 b.0 step.3) g.0 (old, (first, g.1)) (new, (first + g.0, g.2)) g.4

pub contents_grow : (k : SectionKind) (end : ℕ) (text : List ℕ) (old new : Gatherer) → GathersContents k end text old new → Grows old new
contents_grow kind.Custom end text old new g = grows_none old new g
contents_grow kind.DataCount end text old new g = grows_none old new g
contents_grow kind.Type end text old new g = types_grow end text old new g
contents_grow kind.Code end text old new g = bodies_grow old.imported end text old new g
contents_grow kind.Start end text old new g = own_grows false _ g.0 old new g.1
contents_grow kind.Import end text old new g = vector_grows (GathersItem kind.Import) (item_grows kind.Import) end text old new g
contents_grow kind.Export end text old new g = vector_grows (GathersItem kind.Export) (item_grows kind.Export) end text old new g
contents_grow kind.Function end text old new g = vector_grows (GathersItem kind.Function) (item_grows kind.Function) end text old new g
contents_grow kind.Table end text old new g = vector_grows (GathersItem kind.Table) (item_grows kind.Table) end text old new g
contents_grow kind.Memory end text old new g = vector_grows (GathersItem kind.Memory) (item_grows kind.Memory) end text old new g
contents_grow kind.Tag end text old new g = vector_grows (GathersItem kind.Tag) (item_grows kind.Tag) end text old new g
contents_grow kind.Global end text old new g = vector_grows (GathersItem kind.Global) (item_grows kind.Global) end text old new g
contents_grow kind.Element end text old new g = vector_grows (GathersItem kind.Element) (item_grows kind.Element) end text old new g
contents_grow kind.Data end text old new g = vector_grows (GathersItem kind.Data) (item_grows kind.Data) end text old new g

pub sections_grow : (bytes : List ℕ) (old new : Gatherer) → ThroughSections GathersContents bytes old new → Grows old new
sections_grow bytes old new g =
    all_grow {A = ℕ × List ℕ} (OverSection GathersContents (length bytes)) (λ a b step. contents_grow step.0 _ step.1 a.0 b.0 step.3) g.1 (old, (0, g.0))
    (new, (g.2, [])) g.4
