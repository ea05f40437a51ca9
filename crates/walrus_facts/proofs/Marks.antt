-- Marks of locals that are among the facts.
use Rattle.std.proofs.Common.{◌≡◌, ℕ, zero, suc, ◌<◌, ◌==◌, List, [], ◌∷◌, ◌++◌, length, Bool, true, false, not, ◌&&◌, ◌||◌, Result, Ok, Err, refl, sym, ap, ◌∙◌, arith}
use Rattle.std.specs.Prelude.{slice_set, replicate}
use Rattle.std.specs.Bool.{OnTrue, OnFalse}
use Rattle.std.proofs.lemmas.Bool.{eq-eqb, eqb-true}
use Rattle.walrus_ir.specs.declared.error.WalkError.{WalkError}
use Rattle.walrus_ir.specs.Events.{WalkEvent, NameLocal, VisitsOne}
use Rattle.walrus_ir.specs.Unfolding.{among}
use Rattle.walrus_facts.specs.declared.facts.EmitFacts.{EmitFacts}
use Rattle.walrus_facts.specs.declared.facts.FactsVisitor.{FactsVisitor}
use Rattle.walrus_facts.specs.Gathering.{has_used_local, local_at, AddsFacts, Gathers, Declines, HaveSameFacts, HoldsSameFacts}
use Rattle.walrus_facts.specs.Marking.{is_marked, AreUsed}

-- ---- marks

unmarked : (n id : ℕ) → is_marked (replicate n false) id ≡ false
unmarked zero id = refl
unmarked (suc n) zero = refl
unmarked (suc n) (suc id) = unmarked n id

-- more ids, none of them marked
pub more_unmarked : (marks : List Bool) (n id : ℕ) → is_marked (marks ++ replicate n false) id ≡ is_marked marks id
more_unmarked [] n id = unmarked n id
more_unmarked (m ∷ ms) n zero = refl
more_unmarked (m ∷ ms) n (suc id) = more_unmarked ms n id

-- a mark that is set, or taken away
set_here : (marks : List Bool) (id : ℕ) (mark : Bool) → id < length marks → is_marked (slice_set marks id mark) id ≡ mark
set_here [] id mark within = absurd (omega (arith, within))
set_here (m ∷ ms) zero mark within = refl
set_here (m ∷ ms) (suc id) mark within = set_here ms id mark (omega (arith, within))

set_elsewhere : (marks : List Bool) (id other : ℕ) (mark : Bool) → (other ≡ id → ⊥) → is_marked (slice_set marks id mark) other ≡ is_marked marks other
set_elsewhere [] id other mark differs = refl
set_elsewhere (m ∷ ms) zero zero mark differs = absurd (differs refl)
set_elsewhere (m ∷ ms) zero (suc other) mark differs = refl
set_elsewhere (m ∷ ms) (suc id) zero mark differs = refl
set_elsewhere (m ∷ ms) (suc id) (suc other) mark differs = set_elsewhere ms id other mark (λ same. differs (ap suc same))

differs_by : (other id : ℕ) → (other == id) ≡ false → other ≡ id → ⊥
differs_by other id e same = let no : false ≡ true = sym e ∙ eq-eqb other id same in absurd (cc no)

pub one_marked : (marks : List Bool) (id other : ℕ) → id < length marks → is_marked (slice_set marks id true) other ≡ ((other == id) || is_marked marks other)
one_marked marks id other within =
    elim (other == id) as (λ b. (other == id) ≡ b → is_marked (slice_set marks id true) other ≡ (b || is_marked marks other)) [
      | true ↦ λ e. let same = eqb-true other id e in ap (is_marked (slice_set marks id true)) same ∙ set_here marks id true within
      | false ↦ λ e. set_elsewhere marks id other true (differs_by other id e)
    ] refl

none_here : (a : Bool) → false ≡ (a && false)
none_here true = refl
none_here false = refl

same_elsewhere : (a : Bool) → a ≡ (a && true)
same_elsewhere true = refl
same_elsewhere false = refl

pub one_unmarked : (marks : List Bool) (id other : ℕ) → id < length marks → is_marked (slice_set marks id false) other ≡ (is_marked marks other && not (other == id))
one_unmarked marks id other within =
    elim (other == id) as (λ b. (other == id) ≡ b → is_marked (slice_set marks id false) other ≡ (is_marked marks other && not b)) [
      | true ↦ λ e. let same = eqb-true other id e in ap (is_marked (slice_set marks id false)) same ∙ set_here marks id false within ∙ none_here (is_marked marks other)
      | false ↦ λ e. set_elsewhere marks id other false (differs_by other id e) ∙ same_elsewhere (is_marked marks other)
    ] refl

-- beyond the marks there is none
none_beyond : (marks : List Bool) (id : ℕ) → (id < length marks → ⊥) → is_marked marks id ≡ false
none_beyond [] id beyond = refl
none_beyond (m ∷ ms) zero beyond = absurd (beyond (omega arith))
none_beyond (m ∷ ms) (suc id) beyond = none_beyond ms id (λ within. beyond (omega (arith, within)))

pub already_unmarked : (marks : List Bool) (id other : ℕ) → (id < length marks → ⊥) → is_marked marks other ≡ (is_marked marks other && not (other == id))
already_unmarked marks id other beyond =
    elim (other == id) as (λ b. (other == id) ≡ b → is_marked marks other ≡ (is_marked marks other && not b)) [
      | true ↦ λ e. let none = ap (is_marked marks) (eqb-true other id e) ∙ none_beyond marks id beyond in none ∙ none_here (is_marked marks other)
      | false ↦ λ e. same_elsewhere (is_marked marks other)
    ] refl

-- ---- what is used

used_or : (a b : Bool) → b ≡ true → (a || b) ≡ true
used_or true b h = refl
used_or false b h = h

-- what was used is used after an event
pub still_used : (s t : EmitFacts) (e : WalkEvent) (marks : List Bool) → AddsFacts s e t → AreUsed marks s → AreUsed marks t
still_used s t e marks step used id marked = step.used_locals id ∙ used_or (among id (local_at e)) (has_used_local s id) (used id marked)

pub same_used : (s t : EmitFacts) (marks : List Bool) → HaveSameFacts s t → AreUsed marks s → AreUsed marks t
same_used s t marks same used id marked = same.used_locals id ∙ used id marked

-- whether the event is accepted or refused
pub heard_used : {U : Type 0} (s t : FactsVisitor) (e : WalkEvent) (r : Result U WalkError) (marks : List Bool)
    → VisitsOne Gathers Declines HoldsSameFacts s e r t → AreUsed marks s.facts → AreUsed marks t.facts
heard_used s t e (Ok x) marks h used = still_used s.facts t.facts e marks h used
heard_used s t e (Err f) marks h used = same_used s.facts t.facts marks h.1 used

named_used : (s t : EmitFacts) (id : ℕ) → AddsFacts s (NameLocal id) t → has_used_local t id ≡ true
named_used s t id step = step.used_locals id ∙ ap (λ b. (b || false) || has_used_local s id) (eq-eqb id id refl)

-- a local is used and marked
pub marked_used : (s t : EmitFacts) (id : ℕ) (old new : List Bool) → AddsFacts s (NameLocal id) t → AreUsed old s
    → (b : Bool) → OnTrue b ((other : ℕ) → is_marked new other ≡ ((other == id) || is_marked old other)) → OnFalse b ((other : ℕ) → is_marked new other ≡ is_marked old other)
    → AreUsed new t
marked_used s t id old new step used true puts same other marked =
    elim (other == id) as (λ b. (other == id) ≡ b → (b || is_marked old other) ≡ true → has_used_local t other ≡ true) [
      | true ↦ λ e h. ap (has_used_local t) (eqb-true other id e) ∙ named_used s t id step
      | false ↦ λ e h. still_used s t (NameLocal id) old step used other h
    ] refl (sym (puts other) ∙ marked)
marked_used s t id old new step used false puts same other marked = still_used s t (NameLocal id) old step used other (sym (same other) ∙ marked)

-- a local that is used already adds nothing
used_again : (named used : Bool) → (named ≡ true → used ≡ true) → used ≡ (named || false) || used
used_again true used h = h refl
used_again false used h = refl

pub nothing_added : (f : EmitFacts) (id : ℕ) → has_used_local f id ≡ true → (l : ℕ) → has_used_local f l ≡ (among l (local_at (NameLocal id)) || has_used_local f l)
nothing_added f id used l = used_again (l == id) (has_used_local f l) (λ same. ap (has_used_local f) (eqb-true l id same) ∙ used)
