-- What is left of a module is copied: what each of its items names is left too.
use Rattle.std.proofs.Common.{◌≡◌, ◌↔◌, ℕ, zero, suc, ◌+◌, ◌-◌, ◌^◌, min, Bool, true, false, nat_lt, List, [], ◌∷◌, ◌++◌, length, flat_map, Option, Some, None, refl, sym, ap, subst, ◌∙◌, arith}
use Rattle.std.proofs.lemmas.Bool.{ltb-true}
use Rattle.std.proofs.lemmas.List.Elements.{Contains-append_left}
use Rattle.std.specs.List.{Contains}
use Rattle.item_sets.specs.ItemsLeft.{is_left}
use Rattle.reaching.specs.Reaching.{edges_of, IsReachedFrom}
use Rattle.reaching.specs.Searching.{is_set}
use Rattle.wasm_operators.specs.declared.types.Space.{Space}
use Rattle.wasm_operators.specs.declared.types.Space.TheVariants as spaces
use Rattle.wasm_sections.specs.declared.sections.SectionKind.{SectionKind}
use Rattle.wasm_sections.specs.declared.sections.SectionKind.TheVariants as kind
use Rattle.module_removal.specs.declared.item.Item.{Item}
use Rattle.module_removal.specs.declared.item.ItemCounts.{ItemCounts}
use Rattle.module_removal.specs.declared.left.LeftItems.{LeftItems}
use Rattle.module_removal.specs.declared.gathering.Gatherer.{Gatherer}
use Rattle.module_removal.specs.declared.references.References.{References}
use Rattle.module_removal.specs.CopiedItems.{copied_import, copied_export, copied_defined, copied_subtype}
use Rattle.module_removal.specs.CopiedParts.{CopiedPart, NewIndices, item_at, copied_index}
use Rattle.module_removal.specs.Edges.{RefersTo}
use Rattle.module_removal.specs.Gathered.{GathersNext, GathersOwn, GathersBody, GathersDefinedIf, GathersItem, GathersType, GathersGroup, GathersContents}
use Rattle.module_removal.specs.ItemNumbers.{count_of, first_number, all_numbers, number_of_item}
use Rattle.module_removal.specs.LeftLaws.{HaveIndices, IsCopied, Passed, CopiesIfLeft, CopiesDefinedIf, CopiesType, CopiesOwn, CopiesItem, NamesLeft, CopiesContents, LeftIsCopied}
use Rattle.module_removal.specs.LeftSpaces.{own_index, marks_of, index_of, AreMarked}
use Rattle.module_removal.specs.NamedItems.{named_by}
use Rattle.module_removal.specs.ModuleSteps.{PartStep, ThroughVector, ThroughGroup, OverBody, ThroughBodies, OverSection, ThroughSections}
use Rattle.module_removal.specs.SeveralSteps.{SoManySteps}
use Rattle.module_removal.proofs.GrowthLemmas.{Edges, ExtendsEdges, edges_in, Grows, body_grows, type_grows, group_grows, item_grows, alike_grows, contents_grow}
use Rattle.module_removal.proofs.KeptCopies.{items_copied}
use Rattle.module_removal.proofs.ReachedLemmas.{references_left, number_parts}

-- what was passed, when so much was gathered
abbrev passed : Gatherer → Passed
passed g = record { next = g.next; imported = g.imported }

abbrev passed_with : {A : Type 0} → Gatherer × A → Passed × A
passed_with s = (passed s.0, s.1)

-- all of these edges are among those
abbrev AreIn : Edges → Edges → Type 0
AreIn some all = (e : ℕ × ℕ) → Contains some e → Contains all e

before_in : (some more all : Edges) → ExtendsEdges some more → AreIn more all → AreIn some all
before_in some more all x are e has =
    are e (subst (λ (l : Edges). Contains l e) (sym x.1) (Contains-append_left some x.0 e has))

-- A state is within a module: its counts are these, and its edges are among all.
record Within (c : ItemCounts) (all : Edges) (g : Gatherer) : Type 0 where
  counts : g.references.counts ≡ c
  edges : AreIn (edges_in g) all

within_before : (c : ItemCounts) (all : Edges) (old new : Gatherer) → Grows old new → Within c all new → Within c all old
within_before c all old new g w = record { counts = sym g.counts ∙ w.counts; edges = before_in (edges_in old) (edges_in new) all g.edges w.edges }

-- steps of the one kind are steps of the other
lift_steps :
    {A : Type 0} (c : ItemCounts) (all : Edges) (Step : Gatherer × A → Gatherer × A → Type 0) (Other : Passed × A → Passed × A → Type 0) →
    ((a b : Gatherer × A) → Step a b → Grows a.0 b.0) →
    ((a b : Gatherer × A) → Step a b → Within c all b.0 → Other (passed_with a) (passed_with b)) → (n : ℕ) (old new : Gatherer × A) →
    SoManySteps Step n old new → Within c all new.0 → SoManySteps Other n (passed_with old) (passed_with new) × Within c all old.0
unfolding SoManySteps
lift_steps {A = A} c all Step Other grows lift zero old new steps w =
    (ap (λ (s : Gatherer × A). passed_with s) steps, subst (λ (s : Gatherer × A). Within c all s.0) steps w)
lift_steps c all Step Other grows lift (suc n) old new steps w =
    let rest = lift_steps c all Step Other grows lift n steps.0 new steps.2 w in
    ((passed_with steps.0, lift old steps.0 steps.1 rest.1, rest.0), within_before c all old.0 steps.0.0 (grows old steps.0 steps.1) rest.1)

module _ (c : ItemCounts) (all : Edges) (roots : List ℕ) (marks : List Bool) (left : LeftItems)
    (reached : (x : ℕ) → (is_set marks x ≡ true) ↔ IsReachedFrom (min (all_numbers c) (2 ^ 64 - 1)) all roots x) (are : AreMarked c marks left) (own : Contains roots 0) where
  module_is_set : is_set marks 0 ≡ true
  module_is_set = (reached 0).1 (omega arith, 0, 0, own, refl)

  -- an item that is left has a mark that is set
  set_if_left : (space : Space) (index n : ℕ) → number_of_item c (item_at space index) ≡ Some n → is_left (marks_of left space) index ≡ true → is_set marks n ≡ true
  set_if_left space index n e is =
      let parts = number_parts (nat_lt index (count_of c space)) (nat_lt (first_number c space + index) (2 ^ 32)) (first_number c space + index) n e in
      subst (λ (m : ℕ). is_set marks m ≡ true) parts.2 (sym ((are space).each index (ltb-true index (count_of c space) parts.0)) ∙ is)

  -- what is named has an index, if what names it is reached
  named_left : (from : ℕ) (items : List Item) (before after : Edges) → RefersTo c from items before after → AreIn after all → is_set marks from ≡ true → HaveIndices (index_of left) items
  named_left from items before after refers within set = references_left c all roots marks left reached are from items before after refers within set

  refers_in : (old : Gatherer) (from : ℕ) (items : List Item) (before after : Edges) → old.references.counts ≡ c → RefersTo old.references.counts from items before after → RefersTo c from items before after
  refers_in old from items before after e r = subst (λ (k : ItemCounts). RefersTo k from items before after) e r

  next_copied :
      {A : Type 0} (space : Space) (target : Option Item) (declares : Bool) (value : A) (part : NewIndices → CopiedPart A) (end : ℕ) (text following : List ℕ) (old new : Gatherer) →
      IsCopied part → GathersNext space target declares value (part own_index end text) following old new → Within c all new →
      CopiesIfLeft left space (count_of old.next space) part value end text following
  next_copied space target declares value part end text following old new copied g w =
      let same : old.references.counts ≡ c = sym g.counts ∙ w.counts in (
        (g.copied, g.read),
        λ is.
            let number = subst (λ (k : ItemCounts). number_of_item k (item_at space (count_of old.next space)) ≡ Some g.number) same g.number_is in
            let set = set_if_left space (count_of old.next space) g.number number is in
            let has = named_left g.number g.copied.named (edges_in old ++ g.active) (edges_in new)
            (refers_in old g.number g.copied.named (edges_in old ++ g.active) (edges_in new) same g.refers) w.edges set in
            let made = copied (index_of left) end text following value g.copied g.read has in
            (made.0, made.1),
      )

  own_copied :
      (declares : Bool) (part : NewIndices → CopiedPart (Unit {0})) (end : ℕ) (text following : List ℕ) (old new : Gatherer) → IsCopied part →
      GathersOwn declares (part own_index end text) following old new → Within c all new → CopiesOwn (part (index_of left)) end (passed old, text) (passed new, following)
  own_copied declares part end text following old new copied g w =
      let same : old.references.counts ≡ c = sym g.counts ∙ w.counts in
      let has = named_left 0 g.copied.named (edges_in old) (edges_in new) (refers_in old 0 g.copied.named (edges_in old) (edges_in new) same g.refers) w.edges module_is_set in
      let made = copied (index_of left) end text following tt g.copied g.read has in
      (cc, made.0, made.1)

  defined_if_copied : (space : Option Space) (end : ℕ) (old new : Gatherer × List ℕ) → GathersDefinedIf space end old new → Within c all new.0 →
      CopiesDefinedIf left space end (passed_with old) (passed_with new)
  defined_if_copied (Some space) end old new g w =
      ((g.3.next, next_copied space g.0 true tt (λ w. copied_defined w space) end old.1 new.1 old.0 new.0 (items_copied.defined space) g.3 w), g.4)
  defined_if_copied None end old new g w = ap (λ (s : Gatherer × List ℕ). passed_with s) g

  item_copied : (k : SectionKind) (end : ℕ) (old new : Gatherer × List ℕ) → GathersItem k end old new → Within c all new.0 →
      CopiesItem left k end (passed_with old) (passed_with new)
  item_copied kind.Import end old new g w =
      (g.0, (g.1.next, next_copied g.0 None false g.0 copied_import end old.1 new.1 old.0 new.0 items_copied.imports g.1 w), g.2)
  item_copied kind.Export end old new g w = own_copied true copied_export end old.1 new.1 old.0 new.0 items_copied.exports g w
  item_copied kind.Custom end old new g w = defined_if_copied None end old new g w
  item_copied kind.Type end old new g w = defined_if_copied None end old new g w
  item_copied kind.Start end old new g w = defined_if_copied None end old new g w
  item_copied kind.DataCount end old new g w = defined_if_copied None end old new g w
  item_copied kind.Code end old new g w = defined_if_copied None end old new g w
  item_copied kind.Function end old new g w = defined_if_copied (Some spaces.Funcs) end old new g w
  item_copied kind.Table end old new g w = defined_if_copied (Some spaces.Tables) end old new g w
  item_copied kind.Memory end old new g w = defined_if_copied (Some spaces.Memories) end old new g w
  item_copied kind.Tag end old new g w = defined_if_copied (Some spaces.Tags) end old new g w
  item_copied kind.Global end old new g w = defined_if_copied (Some spaces.Globals) end old new g w
  item_copied kind.Element end old new g w = defined_if_copied (Some spaces.Elements) end old new g w
  item_copied kind.Data end old new g w = defined_if_copied (Some spaces.Data) end old new g w

  vector_copied :
      (Step : PartStep Gatherer) (Other : PartStep Passed) → ((end : ℕ) (a b : Gatherer × List ℕ) → Step end a b → Grows a.0 b.0) →
      ((end : ℕ) (a b : Gatherer × List ℕ) → Step end a b → Within c all b.0 → Other end (passed_with a) (passed_with b)) → (end : ℕ) (text : List ℕ) (old new : Gatherer) →
      ThroughVector Step end text old new → Within c all new → ThroughVector Other end text (passed old) (passed new)
  vector_copied Step Other grows copied end text old new g w =
      (g.0, g.1, g.2, g.3, (lift_steps c all (Step end) (Other end) (grows end) (copied end) g.0 (old, g.1) (new, g.2) g.4 w).0)

  type_copied : (first end : ℕ) (old new : Gatherer × List ℕ) → GathersType first end old new → Within c all new.0 → CopiesType left end (passed_with old) (passed_with new)
  type_copied first end old new g w =
      let to = g.grouped.1 in
      let from = g.grouped.2 in
      let own = within_own first end old new g w in (
        (
          ap (λ (h : Gatherer). h.next) g.same ∙ g.gathers.next,
          next_copied spaces.Types None false tt copied_subtype end old.1 new.1 old.0 g.own items_copied.types g.gathers own,
        ),
        ap (λ (h : Gatherer). h.imported) g.same ∙ g.imported,
      )
    where
      within_own : (first end : ℕ) (old new : Gatherer × List ℕ) → (g : GathersType first end old new) → Within c all new.0 → Within c all g.own
      within_own first end old new g w =
          let to = g.grouped.1 in
          let from = g.grouped.2 in
          record {
            counts = g.gathers.counts ∙ sym g.counts ∙ w.counts;
            edges =
                before_in (edges_in g.own) g.grouped.0 all ((to.0, to.1) ∷ [], to.4) (before_in g.grouped.0 (edges_in new.0) all ((from.0, from.1) ∷ [], from.4) w.edges);
          }

  group_copied : (end : ℕ) (old new : Gatherer × List ℕ) → GathersGroup end old new → Within c all new.0 →
      ThroughGroup (CopiesType left) end (passed_with old) (passed_with new)
  group_copied end old new g w =
      let first = old.0.next.types in
      (g.0, g.1, g.2, (lift_steps c all (GathersType first end) (CopiesType left end) (type_grows first end) (type_copied first end) g.0 (old.0, g.1) new g.3 w).0)

  body_left : (func end : ℕ) (text : List ℕ) (old new : Gatherer) → GathersBody func end text old new → Within c all new → NamesLeft left func end text (passed old) (passed new)
  body_left func end text old new g w =
      let same : old.references.counts ≡ c = sym g.counts ∙ w.counts in (
        cc,
        λ is.
            let number = subst (λ (k : ItemCounts). number_of_item k (item_at spaces.Funcs func) ≡ Some g.number) same g.number_is in
            let set = set_if_left spaces.Funcs func g.number number is in
            let items = g.locals.named ++ flat_map named_by g.operators in (
              g.locals,
              g.rest,
              g.operators,
              g.read,
              g.are,
              named_left g.number items (edges_in old) (edges_in new)
                  (refers_in old g.number items (edges_in old) (edges_in new) same g.refers) w.edges set,
            ),
      )

  bodies_left : (first end : ℕ) (text : List ℕ) (old new : Gatherer) → ThroughBodies GathersBody first end text old new → Within c all new →
      ThroughBodies (NamesLeft left) first end text (passed old) (passed new)
  bodies_left first end text old new g w = (
    g.0,
    g.1,
    g.2,
    g.3,
    (lift_steps c all (OverBody GathersBody end) (OverBody (NamesLeft left) end) (λ a b step. body_grows a.1.0 (end - length b.1.1) step.0 a.0 b.0 step.3)
        (λ a b step w. (step.0, step.1, step.2, body_left a.1.0 (end - length b.1.1) step.0 a.0 b.0 step.3 w)) g.0 (old, (first, g.1)) (new, (first + g.0, g.2)) g.4 w).0,
  )

  section_items : (k : SectionKind) (end : ℕ) (text : List ℕ) (old new : Gatherer) → ThroughVector (GathersItem k) end text old new → Within c all new →
      ThroughVector (CopiesItem left k) end text (passed old) (passed new)
  section_items k end text old new g w = vector_copied (GathersItem k) (CopiesItem left k) (item_grows k) (item_copied k) end text old new g w

  contents_copied : (k : SectionKind) (end : ℕ) (text : List ℕ) (old new : Gatherer) → GathersContents k end text old new → Within c all new →
      CopiesContents left k end text (passed old) (passed new)
  contents_copied kind.Custom end text old new g w = ap (λ (h : Gatherer). passed h) g
  contents_copied kind.DataCount end text old new g w = ap (λ (h : Gatherer). passed h) g
  contents_copied kind.Type end text old new g w =
      let alike = alike_grows end text g.0 new g.2 in
      let made = vector_copied GathersGroup (ThroughGroup (CopiesType left)) group_grows group_copied end text old g.0 g.1 (within_before c all g.0 new alike w) in
      subst (λ (p : Passed). ThroughVector (ThroughGroup (CopiesType left)) end text (passed old) p) (sym (ap (λ (h : Gatherer). passed h) g.2.same)) made
  contents_copied kind.Code end text old new g w = bodies_left old.imported end text old new g w
  contents_copied kind.Start end text old new g w =
      (g.0, own_copied false (λ w. copied_index w spaces.Funcs) end text g.0 old new items_copied.start g.1 w)
  contents_copied kind.Import end text old new g w = section_items kind.Import end text old new g w
  contents_copied kind.Export end text old new g w = section_items kind.Export end text old new g w
  contents_copied kind.Function end text old new g w = section_items kind.Function end text old new g w
  contents_copied kind.Table end text old new g w = section_items kind.Table end text old new g w
  contents_copied kind.Memory end text old new g w = section_items kind.Memory end text old new g w
  contents_copied kind.Tag end text old new g w = section_items kind.Tag end text old new g w
  contents_copied kind.Global end text old new g w = section_items kind.Global end text old new g w
  contents_copied kind.Element end text old new g w = section_items kind.Element end text old new g w
  contents_copied kind.Data end text old new g w = section_items kind.Data end text old new g w

  sections_copied : (bytes : List ℕ) (old new : Gatherer) → ThroughSections GathersContents bytes old new → Within c all new →
      ThroughSections (CopiesContents left) bytes (passed old) (passed new)
  sections_copied bytes old new g w =
      let end = length bytes in (
        g.0,
        g.1,
        g.2,
        g.3,
        (lift_steps c all (OverSection GathersContents end) (OverSection (CopiesContents left) end)
            (λ a b step. contents_grow step.0 (end - length b.1.1) step.1 a.0 b.0 step.3)
            (λ a b step w. (step.0, step.1, step.2, contents_copied step.0 (end - length b.1.1) step.1 a.0 b.0 step.3 w)) g.1 (old, (0, g.0)) (new, (g.2, [])) g.4 w).0,
      )

pub left_copied : LeftIsCopied
left_copied bytes r roots marks left gathered own reached are =
    let old = gathered.0 in
    let new = gathered.1 in
    let is = gathered.4 in
    let within : Within r.counts (edges_of r.graph) new = record {
      counts = ap (λ (s : References). s.counts) (sym is);
      edges = λ e has. subst (λ (s : References). Contains (edges_of s.graph) e) (sym is) has;
    } in (
      passed old,
      passed new,
      record { next = gathered.2.next; imported = gathered.2.imported },
      sections_copied r.counts (edges_of r.graph) roots marks left
          (λ x. subst (λ (n : ℕ). (is_set marks x ≡ true) ↔ IsReachedFrom n (edges_of r.graph) roots x) r.numbered (reached x)) are own bytes old new gathered.3 within,
    )
