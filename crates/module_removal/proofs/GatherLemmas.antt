-- What is gathered of an item: the part that is read, its number, and the edges from it.
use Rattle.std.proofs.Common.{◌≡◌, ℕ, ◌<◌, Bool, List, [], ◌∷◌, ◌++◌, flat_map, option_map, Option, Some, None, Result, Ok, Err, OnOk, refl, sym, ap, subst, ◌∙◌, inl, inr, arith}
use Rattle.std.proofs.lemmas.List.{append-nil}
use Rattle.wasm_operators.specs.declared.types.Space.{Space}
use Rattle.wasm_operators.specs.declared.types.Space.TheVariants.{Funcs, Elements, Data}
use Rattle.reaching.specs.Reaching.{edges_of}
use Rattle.wasm_sections.specs.declared.fault.ModuleError.{ModuleError}
use Rattle.wasm_sections.specs.Parts.{Part, ◌>=>◌, number as number_part}
use Rattle.wasm_sections.proofs.TypeReadingLemmas.{first_gives}
use Rattle.module_removal.specs.declared.bounds.Active.{Active}
use denote.Ref.{Bor}
use Rattle.module_removal.specs.declared.copier.Copier.{Copier}
use Rattle.module_removal.specs.declared.declared.Taken.{Taken}
use Rattle.module_removal.specs.declared.item.Item.{Item}
use Rattle.module_removal.specs.declared.item.ItemCounts.{ItemCounts}
use Rattle.module_removal.specs.declared.left.LeftItems.{LeftItems}
use Rattle.module_removal.specs.declared.gathering.Gatherer.{Gatherer}
use Rattle.module_removal.specs.declared.references.References.{References}
use Rattle.module_removal.specs.LeftSpaces.{own_index, index_written}
use Rattle.module_removal.specs.ItemNumbers.{count_of, all_numbers, number_of_item, with_more_items}
use Rattle.module_removal.specs.CopiedParts.{Copied, CopiedPart, NewIndices, item_at, AppendsCopied, Copies}
use Rattle.module_removal.specs.CopiedItems.{copied_locals}
use Rattle.module_removal.specs.Declaring.{taken_in_body, TakesFunctions, NamesFunctions, functions_if}
use Rattle.module_removal.specs.NamedItems.{named_by, FindsOperators}
use Rattle.module_removal.specs.Edges.{RefersTo, AddsReferencesTo}
use Rattle.module_removal.specs.Gathered.{Activates, item_of_active, defined_target, GathersNext, GathersOwn, GathersBody}
use Rattle.module_removal.proofs.EdgeLemmas.{number_within}

refers_as :
    (c d : ItemCounts) (from : ℕ) (xs ys : List Item) (es fs new : List (ℕ × ℕ)) → c ≡ d → xs ≡ ys → es ≡ fs → RefersTo c from xs es new → RefersTo d from ys fs new
refers_as c d from xs ys es fs new p q r t =
    subst (λ (k : ItemCounts). RefersTo k from ys fs new) p
    (subst (λ (l : List Item). RefersTo c from l fs new) q (subst (λ (l : List (ℕ × ℕ)). RefersTo c from xs l new) r t))

-- what is found after nothing was
found_is : (cleared mid : Copier) (a : Copied) → cleared.found.items ≡ [] → AppendsCopied cleared a mid → mid.found.items ≡ a.named
found_is cleared mid a none p = p.found ∙ ap (λ (l : List Item). l ++ a.named) none

-- a part whose items keep their indices
pub own_part :
    {A : Type 0} (part : NewIndices → CopiedPart A) (end : ℕ) (text : List ℕ) (cleared : Copier) (r : Result ((A × Copied) × List ℕ) ModuleError) →
    cleared.left ≡ None → part (index_written cleared.left) end text ≡ r → part own_index end text ≡ r
own_part part end text cleared r none e = ap (λ (l : Option (Bor LeftItems)). part (index_written l) end text) (sym none) ∙ e

declared_as :
    (declares : Bool) (by : ℕ) (xs ys : List Item) (old act base new : Taken) → xs ≡ ys → act ≡ old → new ≡ base →
    NamesFunctions (functions_if declares by xs) act base → NamesFunctions (functions_if declares by ys) old new
declared_as declares by xs ys old act base new e first last d =
    subst (λ (l : List Item). NamesFunctions (functions_if declares by l) old new) e
    (subst (λ (t : Taken). NamesFunctions (functions_if declares by xs) t new) first
    (subst (λ (t : Taken). NamesFunctions (functions_if declares by xs) act t) (sym last) d))

pub declares_none : (t : Taken) → NamesFunctions [] t t
declares_none t = record { outside = sym (append-nil t.outside.items); in_bodies = refl }

pub gathers_next :
    {A : Type 0} (space : Space) (target : Option Item) (declares : Bool) (value : A) (part : NewIndices → CopiedPart A) (end : ℕ) (text following : List ℕ) (old new : Gatherer)
    (cleared mid : Copier) (act base : References) (number : ℕ) (r : Result (Unit {0}) ModuleError) → cleared.left ≡ None → cleared.found.items ≡ [] →
    Copies cleared mid following (Ok value) (part (index_written cleared.left) end text) →
    number_of_item old.references.counts (item_at space (count_of old.next space)) ≡ Some number → Activates number target old.references act →
    base.counts ≡ act.counts → base.graph ≡ act.graph → NamesFunctions (functions_if declares number mid.found.items) act.taken base.taken → new.next ≡ with_more_items space 1 old.next → new.copier.left ≡ mid.left →
    OnOk r (AddsReferencesTo number mid.found.items base new.references) →
    OnOk r (GathersNext space target declares value (part own_index end text) following old new)
gathers_next space target declares value part end text following old new cleared mid act base number (Err e) left none copies is activates c g d next same adds = tt
gathers_next space target declares value part end text following old new cleared mid act base number (Ok u) left none copies is activates c g d next same adds =
    let within = number_within old.references.counts (item_at space (count_of old.next space)) number is in
    let active = activates.edges within in
    let counts : base.counts ≡ old.references.counts = c ∙ activates.counts in
    let found = found_is cleared mid copies.0 none copies.2 in
    record {
      number = number;
      number_is = is;
      next = next;
      counts = adds.counts ∙ counts;
      finds = same ∙ copies.2.left ∙ left;
      copied = copies.0;
      read = own_part part end text cleared (Ok ((value, copies.0), following)) left copies.1;
      active = active.0;
      is_active = active.1;
      refers =
          refers_as base.counts old.references.counts number mid.found.items copies.0.named (edges_of base.graph) (edges_of old.references.graph ++ active.0)
          (edges_of new.references.graph) counts found (ap edges_of g ∙ active.2)
          (adds.refers (subst (λ (k : ItemCounts). number < all_numbers k) (sym counts) within));
      declared = declared_as declares number mid.found.items copies.0.named old.references.taken act.taken base.taken new.references.taken found activates.taken adds.taken d;
    }

-- no segment is activated
pub activates_none : (number : ℕ) (old : References) → Activates number None old old
activates_none number old = record { counts = refl; taken = refl; edges = λ within. ([], refl, sym (append-nil (edges_of old.graph))) }

pub gathers_own :
    (declares : Bool) (part : NewIndices → CopiedPart (Unit {0})) (end : ℕ) (text following : List ℕ) (old new : Gatherer) (cleared mid : Copier) (base : References)
    (r : Result (Unit {0}) ModuleError) → cleared.left ≡ None → cleared.found.items ≡ [] →
    Copies cleared mid following (Ok tt) (part (index_written cleared.left) end text) → base.counts ≡ old.references.counts → base.graph ≡ old.references.graph →
    NamesFunctions (functions_if declares 0 mid.found.items) old.references.taken base.taken → new ≡ record old { copier = mid; references = new.references } →
    OnOk r (AddsReferencesTo 0 mid.found.items base new.references) → OnOk r (GathersOwn declares (part own_index end text) following old new)
gathers_own declares part end text following old new cleared mid base (Err e) left none copies counts graph d same adds = tt
gathers_own declares part end text following old new cleared mid base (Ok u) left none copies counts graph d same adds = record {
  next = ap (λ (g : Gatherer). g.next) same;
  imported = ap (λ (g : Gatherer). g.imported) same;
  counts = adds.counts ∙ counts;
  finds = ap (λ (g : Gatherer). g.copier.left) same ∙ copies.2.left ∙ left;
  copied = copies.0;
  read = own_part part end text cleared (Ok ((tt, copies.0), following)) left copies.1;
  refers =
      refers_as base.counts old.references.counts 0 mid.found.items copies.0.named (edges_of base.graph) (edges_of old.references.graph)
      (edges_of new.references.graph) counts (found_is cleared mid copies.0 none copies.2) (ap edges_of graph) (adds.refers (omega arith));
  declared =
      declared_as declares 0 mid.found.items copies.0.named old.references.taken old.references.taken base.taken new.references.taken
      (found_is cleared mid copies.0 none copies.2) refl adds.taken d;
}

pub gathers_body :
    (func end : ℕ) (text rest : List ℕ) (old new : Gatherer) (cleared mid last : Copier) (base : References) (number : ℕ) (r : Result (Unit {0}) ModuleError) →
    cleared.left ≡ None → cleared.found.items ≡ [] →
    Copies cleared mid rest (Ok tt) (copied_locals (index_written cleared.left) end text) → FindsOperators func (mid, old.references.taken) (last, base.taken) (Ok tt) end rest →
    number_of_item old.references.counts (item_at Funcs func) ≡ Some number → base.counts ≡ old.references.counts → base.graph ≡ old.references.graph →
    new ≡ record old { copier = last; references = new.references } → OnOk r (AddsReferencesTo number last.found.items base new.references) →
    OnOk r (GathersBody func end text old new)
gathers_body func end text rest old new cleared mid last base number (Err e) left none copies found is counts graph same adds = tt
gathers_body func end text rest old new cleared mid last base number (Ok u) left none copies found is counts graph same adds =
    let within = number_within old.references.counts (item_at Funcs func) number is in
    let named = found.2.found ∙ ap (λ (l : List Item). l ++ flat_map named_by found.0) (found_is cleared mid copies.0 none copies.2) in
    record {
      next = ap (λ (g : Gatherer). g.next) same;
      imported = ap (λ (g : Gatherer). g.imported) same;
      counts = adds.counts ∙ counts;
      finds = ap (λ (g : Gatherer). g.copier.left) same ∙ found.2.left ∙ copies.2.left ∙ left;
      number = number;
      number_is = is;
      locals = copies.0;
      rest = rest;
      read = own_part copied_locals end text cleared (Ok ((tt, copies.0), rest)) left copies.1;
      operators = found.0;
      are = found.1;
      refers =
          refers_as base.counts old.references.counts number last.found.items (copies.0.named ++ flat_map named_by found.0) (edges_of base.graph)
          (edges_of old.references.graph) (edges_of new.references.graph) counts named (ap edges_of graph)
          (adds.refers (subst (λ (c : ItemCounts). number < all_numbers c) (sym counts) within));
      taken = subst (λ (t : Taken). TakesFunctions (flat_map (taken_in_body func) found.0) old.references.taken t) (sym adds.taken) found.3;
    }

-- ---- results

pub with_its_space :
    (r : Result (Unit {0}) ModuleError) (P : Space → Type 0) (Q : Type 0) (space : Space) → OnOk r (P space) → Q → OnOk r ((s : Space) × P s × Q)
with_its_space (Ok u) P Q space p q = (space, p, q)
with_its_space (Err e) P Q space p q = tt

pub with_its_target :
    (r : Result (Unit {0}) ModuleError) (given : Result (Option Item × List ℕ) ModuleError) (P : Option Item → Type 0) (Q : Type 0) (target : Option Item)
    (following : List ℕ) → given ≡ Ok (target, following) → OnOk r (P target) → Q →
    OnOk r ((target : Option Item) × (following : List ℕ) × (given ≡ Ok (target, following)) × P target × Q)
with_its_target (Ok u) given P Q target following e p q = (target, following, e, p, q)
with_its_target (Err x) given P Q target following e p q = tt

pub with_following : (r : Result (Unit {0}) ModuleError) (P : List ℕ → Type 0) (following : List ℕ) → OnOk r (P following) → OnOk r ((f : List ℕ) × P f)
with_following (Ok u) P following p = (following, p)
with_following (Err e) P following p = tt

-- ---- active segments

pub activates_some :
    (number : ℕ) (active : Option Active) (a : Active) (old new : References) (r : Result (Unit {0}) ModuleError) → active ≡ Some a →
    OnOk r (Activates number (Some (item_of_active a)) old new) → OnOk r (Activates number (option_map item_of_active active) old new)
activates_some number active a old new r e p = subst (λ (o : Option Active). OnOk r (Activates number (option_map item_of_active o) old new)) (sym e) p

pub activates_no : (number : ℕ) (active : Option Active) (old : References) → active ≡ None → Activates number (option_map item_of_active active) old old
activates_no number active old e = subst (λ (o : Option Active). Activates number (option_map item_of_active o) old old) (sym e) (activates_none number old)

pub activates_own :
    (number : ℕ) (target : Item) (old new : References) (r : Result (Unit {0}) ModuleError) → new.counts ≡ old.counts → new.taken ≡ old.taken →
    OnOk r (0 < all_numbers old.counts → number < all_numbers old.counts → edges_of new.graph ≡ edges_of old.graph ++ (0, number) ∷ []) →
    OnOk r (Activates number (Some target) old new)
activates_own number target old new (Ok u) counts taken p =
    record { counts = counts; taken = taken; edges = λ within. ((0, number) ∷ [], inl refl, p (omega arith) within) }
activates_own number target old new (Err e) counts taken p = tt

pub activates_from :
    (number t : ℕ) (target : Item) (old new : References) (r : Result (Unit {0}) ModuleError) → new.counts ≡ old.counts → new.taken ≡ old.taken →
    number_of_item old.counts target ≡ Some t →
    OnOk r (t < all_numbers old.counts → number < all_numbers old.counts → edges_of new.graph ≡ edges_of old.graph ++ (t, number) ∷ []) →
    OnOk r (Activates number (Some target) old new)
activates_from number t target old new (Ok u) counts taken is p =
    record { counts = counts; taken = taken; edges = λ within. ((t, number) ∷ [], inr (t, is, refl), p (number_within old.counts target t is) within) }
activates_from number t target old new (Err e) counts taken is p = tt

-- a number, and then what it says of the target
pub target_read :
    (flagged : ℕ → Part (Option Item)) (end other : ℕ) (text rest following : List ℕ) (flags : ℕ) (o : Option Item) → number_part end text ≡ Ok (flags, rest) →
    other ≡ end → flagged flags other rest ≡ Ok (o, following) → (number_part >=> flagged) end text ≡ Ok (o, following)
target_read flagged end other text rest following flags o e s f =
    first_gives (number_part end text) (λ y. flagged y.0 end y.1) (flags, rest) e ∙ ap (λ (n : ℕ). flagged flags n rest) (sym s) ∙ f

-- what isn't a segment has none
pub no_target :
    (s : Space) (end : ℕ) (text : List ℕ) → (s ≡ Elements → ⊥) → (s ≡ Data → ⊥) →
    defined_target s end text ≡ (let r : Result (Option Item × List ℕ) ModuleError = Ok (None, text) in r)
no_target Elements end text e d = absurd (e refl)
no_target Data end text e d = absurd (d refl)
no_target _ end text e d = refl
