-- What is gathered of the items of a section, and of all sections, in loops.
use Rattle.std.proofs.Common.{◌≡◌, ℕ, ◌+◌, ◌-◌, ◌<◌, ◌≤◌, ◌^◌, Bool, true, false, nat_lt, List, [], ◌++◌, length, Some, None, Result, Ok, Err, OnOk, refl, sym, ap, subst, ◌∙◌, arith}
use Rattle.std.proofs.lemmas.Bool.{ltb-true}
use Rattle.reaching.specs.Reaching.{edges_of}
use Rattle.walrus_ir.specs.Types.{ModuleType}
use Rattle.wasm_operators.specs.declared.types.Space.{Space}
use Rattle.wasm_operators.specs.declared.types.Space.TheVariants.{Types, Funcs}
use Rattle.wasm_sections.specs.declared.fault.ModuleError.{ModuleError}
use Rattle.wasm_sections.specs.declared.sections.Section.{Section}
use Rattle.wasm_sections.specs.declared.sections.Sections.{Sections}
use Rattle.wasm_sections.specs.Format.{members_part, types_part}
use Rattle.wasm_sections.specs.Parts.{number as number_part, piece}
use Rattle.wasm_sections.specs.Sections.{preamble, TakesSection}
use Rattle.wasm_sections.proofs.TypeReadingLemmas.{first_gives}
use Rattle.module_removal.specs.declared.item.ItemCounts.{ItemCounts}
use Rattle.module_removal.specs.declared.gathering.Gatherer.{Gatherer}
use Rattle.module_removal.specs.declared.references.References.{References}
use Rattle.module_removal.specs.LeftSpaces.{own_index}
use Rattle.module_removal.specs.CopiedItems.{copied_subtype}
use Rattle.module_removal.specs.Counting.{AreCountsOf}
use Rattle.module_removal.specs.CopiedParts.{item_at}
use Rattle.module_removal.specs.Edges.{ItemRefersTo}
use Rattle.module_removal.specs.Gathered.{GathersNext, GathersType, GathersGroup, GathersAlike, ReferToAlike, GathersTypes, GathersBody, GathersContents, AreReferencesOf}
use Rattle.module_removal.specs.ModuleSteps.{PartStep, ThroughVector, OverBody, ThroughBodies, ThroughSections}
use Rattle.module_removal.specs.ItemNumbers.{count_of, first_number, number_if, number_of_item}
use Rattle.module_removal.specs.SeveralSteps.{SoManySteps}
use Rattle.module_removal.proofs.GrowthLemmas.{Grows, contents_grow, sections_grow}
use Rattle.module_removal.proofs.SeveralStepsLemmas.{StepsLeft, no_step_made, one_more_step, all_steps_made}
use Rattle.module_removal.proofs.SectionStepLemmas.{ItemsPassed, no_item_passed, one_more_item, all_items_passed, SectionsPassed, no_section_passed, one_more_passed, all_sections_passed}

-- ---- steps, while the copier finds what is named

abbrev pub Finds : {A : Type 0} → Gatherer × A → Type 0
Finds s = s.0.copier.left ≡ None

-- Of so many steps some were made.
pub record GathersLeft {A : Type 0} (Step : Gatherer × A → Gatherer × A → Type 0) (count i : ℕ) (start now : Gatherer × A) : Type 0 where
  pub finds : Finds now
  pub left : StepsLeft Step count i start now

pub none_gathered :
    {A : Type 0} (Step : Gatherer × A → Gatherer × A → Type 0) (count : ℕ) (start : Gatherer × A) → Finds start → GathersLeft Step count 0 start start
none_gathered Step count start finds = record { finds = finds; left = no_step_made Step count start }

pub one_gathered :
    {A : Type 0} (Step : Gatherer × A → Gatherer × A → Type 0) (count i : ℕ) (start now next : Gatherer × A) → GathersLeft Step count i start now → i < count →
    Step now next → Finds next → GathersLeft Step count (i + 1) start next
one_gathered Step count i start now next so less step finds =
    record { finds = finds; left = one_more_step Step count i start now next so.left less step }

pub all_gathered :
    {A : Type 0} (Step : Gatherer × A → Gatherer × A → Type 0) (count i : ℕ) (start now : Gatherer × A) → GathersLeft Step count i start now → count ≤ i →
    SoManySteps Step count start now
all_gathered Step count i start now so done = all_steps_made Step count i start now so.left done

-- ---- types

pub gathers_type :
    (first end : ℕ) (text following : List ℕ) (old own new : Gatherer) (mid : References) (r : Result (Unit {0}) ModuleError) →
    GathersNext Types None false tt (copied_subtype own_index end text) following old own → own.imported ≡ old.imported →
    new ≡ record own { references = new.references } → mid.counts ≡ own.references.counts → new.references.counts ≡ mid.counts →
    mid.taken ≡ own.references.taken → new.references.taken ≡ mid.taken →
    ItemRefersTo own.references.counts (item_at Types first) (item_at Types old.next.types) (edges_of own.references.graph) (edges_of mid.graph) →
    OnOk r (ItemRefersTo mid.counts (item_at Types old.next.types) (item_at Types first) (edges_of mid.graph) (edges_of new.references.graph)) →
    OnOk r (GathersType first end (old, text) (new, following))
gathers_type first end text following old own new mid (Err e) g imported same mid_counts counts mid_taken taken to from = tt
gathers_type first end text following old own new mid (Ok u) g imported same mid_counts counts mid_taken taken to from =
    let a = item_at Types first in
    let b = item_at Types old.next.types in
    record {
      own = own;
      gathers = g;
      imported = imported;
      same = same;
      counts = counts ∙ mid_counts ∙ g.counts;
      taken = taken ∙ mid_taken;
      grouped = (
        edges_of mid.graph,
        subst (λ (c : ItemCounts). ItemRefersTo c a b (edges_of own.references.graph) (edges_of mid.graph)) g.counts to,
        subst (λ (c : ItemCounts). ItemRefersTo c b a (edges_of mid.graph) (edges_of new.references.graph)) (mid_counts ∙ g.counts) from,
      );
    }

pub gathers_group :
    (end other : ℕ) (text rest following : List ℕ) (members : ℕ) (old new : Gatherer) (r : Result (Unit {0}) ModuleError) →
    members_part end text ≡ Ok (members, rest) → other ≡ end →
    OnOk r (SoManySteps (GathersType old.next.types other) members (old, rest) (new, following)) → OnOk r (GathersGroup end (old, text) (new, following))
gathers_group end other text rest following members old new (Ok u) e s steps =
    (members, rest, e, subst (λ (n : ℕ). SoManySteps (GathersType old.next.types n) members (old, rest) (new, following)) s steps)
gathers_group end other text rest following members old new (Err x) e s steps = tt

pub gathers_alike :
    (end : ℕ) (text following : List ℕ) (types : List ModuleType) (old new : Gatherer) (r : Result (Unit {0}) ModuleError) →
    types_part old.references.counts.types end text ≡ Ok (types, following) → new ≡ record old { references = new.references } →
    new.references.counts ≡ old.references.counts → new.references.taken ≡ old.references.taken →
    OnOk r (ReferToAlike types old.references.counts (edges_of old.references.graph) (edges_of new.references.graph)) → OnOk r (GathersAlike end text old new)
gathers_alike end text following types old new (Ok u) read same counts taken refer =
    record { same = same; counts = counts; taken = taken; types = types; following = following; read = read; refer = refer }
gathers_alike end text following types old new (Err e) read same counts taken refer = tt

pub gathers_types :
    (end : ℕ) (text : List ℕ) (old mid new : Gatherer) (r : Result (Unit {0}) ModuleError) → ThroughVector GathersGroup end text old mid →
    OnOk r (GathersAlike end text mid new) → OnOk r (GathersTypes end text old new)
gathers_types end text old mid new (Ok u) groups alike = (mid, groups, alike)
gathers_types end text old mid new (Err e) groups alike = tt

-- ---- the items of a section

-- Of these some are gathered.
pub record EachLeft (Step : PartStep Gatherer) (end : ℕ) (text : List ℕ) (count i : ℕ) (old : Gatherer) (now : Gatherer × List ℕ) : Type 0 where
  pub finds : Finds now
  pub passed : ItemsPassed Step end text count i old now

pub none_of_each :
    (Step : PartStep Gatherer) (end count : ℕ) (text rest : List ℕ) (old : Gatherer) → number_part end text ≡ Ok (count, rest) →
    old.copier.left ≡ None → EachLeft Step end text count 0 old (old, rest)
none_of_each Step end count text rest old read finds = record { finds = finds; passed = no_item_passed Step end count text rest old read }

pub one_of_each :
    (Step : PartStep Gatherer) (end other : ℕ) (text : List ℕ) (count i : ℕ) (old : Gatherer) (now next : Gatherer × List ℕ) →
    ((end : ℕ) (a b : Gatherer × List ℕ) → Step end a b → Grows a.0 b.0) → EachLeft Step end text count i old now → i < count → other ≡ end →
    (Finds now → Step other now next) → EachLeft Step end text count (i + 1) old next
one_of_each Step end other text count i old now next grows so less same step = record {
  finds = (grows other now next (step so.finds)).finds so.finds;
  passed = one_more_item Step end other text count i old now next so.passed less same (step so.finds);
}

pub all_of_each :
    (Step : PartStep Gatherer) (end : ℕ) (text : List ℕ) (count i : ℕ) (old : Gatherer) (now : Gatherer × List ℕ) →
    EachLeft Step end text count i old now → count ≤ i → ThroughVector Step end text old now.0
all_of_each Step end text count i old now so done = all_items_passed Step end text count i old now so.passed done

-- ---- bodies

-- the index of a function with a number is below the greatest one
fits_is : (is_item fits : Bool) (m n : ℕ) → number_if is_item fits m ≡ Some n → fits ≡ true
fits_is true true m n e = refl
fits_is true false m n e = absurd cc
fits_is false fits m n e = absurd cc

small_function : (c : ItemCounts) (func n : ℕ) → number_of_item c (item_at Funcs func) ≡ Some n → func + 1 < 2 ^ 64
small_function c func n e =
    let fits = fits_is (nat_lt func (count_of c Funcs)) (nat_lt (first_number c Funcs + func) (2 ^ 32)) (first_number c Funcs + func) n e in
    omega (arith, ltb-true (first_number c Funcs + func) (2 ^ 32) fits)

pub gathers_next_body :
    (func end other place size : ℕ) (text sized following body : List ℕ) (old new : Gatherer) (r : Result (Unit {0}) ModuleError) →
    number_part end text ≡ Ok (size, sized) → other ≡ end → piece size other sized ≡ Ok (body, following) → place ≡ other - length following →
    OnOk r (GathersBody func place body old new) → OnOk r (OverBody GathersBody end (old, (func, text)) (new, (func + 1, following)))
gathers_next_body func end other place size text sized following body old new (Err e) read same cut at g = tt
gathers_next_body func end other place size text sized following body old new (Ok u) read same cut at g = (
  body,
  first_gives (number_part end text) (λ y. piece y.0 end y.1) (size, sized) read ∙ subst (λ (n : ℕ). piece size n sized ≡ Ok (body, following)) same cut,
  refl,
  subst (λ (n : ℕ). GathersBody func n body old new) (at ∙ ap (λ (n : ℕ). n - length following) same) g,
)

-- The number of the bodies is read, and of these some are gathered.
pub record BodiesLeft (end : ℕ) (text : List ℕ) (count i : ℕ) (old now : Gatherer) (func : ℕ) (left : List ℕ) : Type 0 where
  pub rest : List ℕ
  pub read : number_part end text ≡ Ok (count, rest)
  pub func_is : func ≡ old.imported + i
  pub gathers : GathersLeft {A = ℕ × List ℕ} (OverBody GathersBody end) count i (old, (old.imported, rest)) (now, (func, left))

pub no_body :
    (end count : ℕ) (text rest : List ℕ) (old : Gatherer) → number_part end text ≡ Ok (count, rest) → old.copier.left ≡ None →
    BodiesLeft end text count 0 old old old.imported rest
no_body end count text rest old read finds = record {
  rest = rest;
  read = read;
  func_is = omega arith;
  gathers = none_gathered {A = ℕ × List ℕ} (OverBody GathersBody end) count (old, (old.imported, rest)) finds;
}

pub one_more_body :
    (end other : ℕ) (text : List ℕ) (count i : ℕ) (old now next : Gatherer) (func more : ℕ) (left following : List ℕ) →
    BodiesLeft end text count i old now func left → i < count → other ≡ end →
    (now.copier.left ≡ None → OverBody GathersBody other (now, (func, left)) (next, (func + 1, following))) → (func + 1 < 2 ^ 64 → more ≡ func + 1) →
    BodiesLeft end text count (i + 1) old next more following
one_more_body end other text count i old now next func more left following so less same step more_is =
    let made = subst (λ (n : ℕ). OverBody GathersBody n (now, (func, left)) (next, (func + 1, following))) same (step so.gathers.finds) in
    let is : more ≡ func + 1 = more_is (small_function now.references.counts func made.3.number made.3.number_is) in
    record {
      rest = so.rest;
      read = so.read;
      func_is = is ∙ ap (λ (n : ℕ). n + 1) so.func_is ∙ (omega arith);
      gathers =
          one_gathered {A = ℕ × List ℕ} (OverBody GathersBody end) count i (old, (old.imported, so.rest)) (now, (func, left)) (next, (more, following)) so.gathers less
          (subst (λ (n : ℕ). OverBody GathersBody end (now, (func, left)) (next, (n, following))) (sym is) made) made.3.finds;
    }

pub all_bodies :
    (end : ℕ) (text : List ℕ) (count i : ℕ) (old now : Gatherer) (func : ℕ) (left : List ℕ) → BodiesLeft end text count i old now func left → i ≡ count →
    ThroughBodies GathersBody old.imported end text old now
all_bodies end text count i old now func left so done = (
  count,
  so.rest,
  left,
  so.read,
  subst (λ (n : ℕ). SoManySteps (OverBody GathersBody end) count (old, (old.imported, so.rest)) (now, (n, left))) (so.func_is ∙ ap (λ (n : ℕ). old.imported + n) done)
      (all_gathered {A = ℕ × List ℕ} (OverBody GathersBody end) count i (old, (old.imported, so.rest)) (now, (func, left)) so.gathers (omega arith)),
)

-- ---- sections

-- Some of the sections are gathered.
pub record SectionsLeft (bytes : List ℕ) (old now : Gatherer) (left : Sections) : Type 0 where
  pub finds : now.copier.left ≡ None
  pub passed : SectionsPassed GathersContents bytes old now left

pub no_section :
    (bytes : List ℕ) (old : Gatherer) (first begun : Sections) → bytes ≡ preamble ++ first.left.rest.now → first.left.end ≡ length bytes → first.rank ≡ 0 →
    begun ≡ first → old.copier.left ≡ None → SectionsLeft bytes old old begun
no_section bytes old first begun is end rank same finds =
    record { finds = finds; passed = no_section_passed GathersContents bytes old first begun is end rank same }

pub one_more_section :
    (bytes : List ℕ) (old now next : Gatherer) (left then : Sections) (section : Section) → SectionsLeft bytes old now left → TakesSection left (Some (Ok section)) then →
    (now.copier.left ≡ None → GathersContents section.kind section.contents.end section.contents.rest.now now next) → SectionsLeft bytes old next then
one_more_section bytes old now next left then section so takes contents = record {
  finds = (contents_grow section.kind section.contents.end section.contents.rest.now now next (contents so.finds)).finds so.finds;
  passed = one_more_passed GathersContents bytes old now next left then section so.passed takes (contents so.finds);
}

pub all_sections :
    (bytes : List ℕ) (old now : Gatherer) (left then : Sections) → SectionsLeft bytes old now left → TakesSection left None then → ThroughSections GathersContents bytes old now
all_sections bytes old now left then so takes = all_sections_passed GathersContents bytes old now left then so.passed takes

pub gathered :
    (bytes : List ℕ) (old new : Gatherer) → ThroughSections GathersContents bytes old new → ((space : Space) → count_of old.next space ≡ 0) → old.imported ≡ 0 →
    old.copier.left ≡ None → edges_of old.references.graph ≡ [] → old.references.taken.in_bodies.items ≡ [] →
    old.references.taken.outside.items ≡ [] → AreCountsOf bytes old.references.counts → AreReferencesOf bytes new.references
gathered bytes old new g next imported finds edges in_bodies outside counts = (
  old,
  new,
  record { next = next; imported = imported; finds = finds; edges = edges; in_bodies = in_bodies; outside = outside },
  g,
  refl,
  subst (λ (c : ItemCounts). AreCountsOf bytes c) (sym (sections_grow bytes old new g).counts) counts,
)
