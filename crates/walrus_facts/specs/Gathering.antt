-- `FactsVisitor` gathers the facts of the instructions that it visits.
use Rattle.std.specs.Prelude.{◌≡◌, ◌||◌, ◌+◌, ◌^◌, ◌≤◌, ◌==◌, ℕ, Bool, List, [], ◌∷◌, ◌++◌, length}
use Rattle.std.specs.HashSet.{contains}
use Rattle.std.proofs.Common.{sym, ap, ◌∙◌, subst, refl}
use Rattle.walrus_ir.specs.declared.error.WalkError.{WalkError}
use Rattle.walrus_ir.specs.declared.error.WalkError.TheVariants.{Memory, TooLarge}
use Rattle.walrus_ir.specs.Unfolding.{among}
use Rattle.walrus_ir.specs.Events.{WalkEvent, StartSequence, EndSequence, VisitInstruction, NameFunction, NameLocal, NameData}
use Rattle.walrus_ir.specs.Events.{AreStepsAlike, AreRefusalsAlike}
use Rattle.walrus_facts.specs.declared.facts.EmitFacts.{EmitFacts}
use Rattle.walrus_facts.specs.declared.facts.FactsVisitor.{FactsVisitor}
use Rattle.walrus_facts.specs.Facts.{are_some}
use Rattle.walrus_facts.specs.Segments.{named}
use Rattle.walrus_facts.specs.Sizes.{visited}

-- whether these facts contain a local
abbrev pub has_used_local : EmitFacts → ℕ → Bool
has_used_local f l = contains (λ x y. x == y) f.used_locals l

-- the function that the instruction of an event refers to
abbrev pub function_at : WalkEvent → List ℕ
function_at (NameFunction n) = n ∷ []
function_at _ = []

-- the local that the instruction of an event reads or writes
abbrev pub local_at : WalkEvent → List ℕ
local_at (NameLocal l) = l ∷ []
local_at _ = []

-- An event adds its instruction, and the item that it names, to these facts.
pub record AddsFacts (s : EmitFacts) (e : WalkEvent) (t : EmitFacts) : Type 0 where
  pub size : t.size ≡ s.size + length (visited e)
  pub uses_data_segments : t.uses_data_segments ≡ (are_some (named e) || s.uses_data_segments)
  pub ref_funcs : t.ref_funcs.items ≡ s.ref_funcs.items ++ function_at e
  pub used_locals : (l : ℕ) → has_used_local t l ≡ (among l (local_at e) || has_used_local s l)

abbrev pub Gathers : FactsVisitor → WalkEvent → FactsVisitor → Type 0
Gathers s e t = AddsFacts s.facts e t.facts

-- the count would not fit 64 bits, or memory ran out for the function or the local that is named
abbrev pub Declines : FactsVisitor → WalkEvent → WalkError → Type 0
Declines s (VisitInstruction i location) f = (f ≡ TooLarge) × (2 ^ 64 ≤ s.facts.size + 1)
Declines s (NameFunction n) f = f ≡ Memory
Declines s (NameLocal l) f = f ≡ Memory
Declines s _ f = ⊥

-- these facts say the same
pub record HaveSameFacts (s t : EmitFacts) : Type 0 where
  pub size : t.size ≡ s.size
  pub uses_data_segments : t.uses_data_segments ≡ s.uses_data_segments
  pub ref_funcs : t.ref_funcs.items ≡ s.ref_funcs.items
  pub used_locals : (l : ℕ) → has_used_local t l ≡ has_used_local s l

-- both contain facts that say the same
abbrev pub HoldsSameFacts : FactsVisitor → FactsVisitor → Type 0
HoldsSameFacts s t = HaveSameFacts s.facts t.facts

pub same_facts : (s : FactsVisitor) → HoldsSameFacts s s
same_facts s = record { size = refl; uses_data_segments = refl; ref_funcs = refl; used_locals = λ l. refl }

pub turned : (s t : FactsVisitor) → HoldsSameFacts s t → HoldsSameFacts t s
turned s t h = record {
  size = sym h.size;
  uses_data_segments = sym h.uses_data_segments;
  ref_funcs = sym h.ref_funcs;
  used_locals = λ l. sym (h.used_locals l);
}

pub chained : (s t u : FactsVisitor) → HoldsSameFacts s t → HoldsSameFacts t u → HoldsSameFacts s u
chained s t u h k = record {
  size = k.size ∙ h.size;
  uses_data_segments = k.uses_data_segments ∙ h.uses_data_segments;
  ref_funcs = k.ref_funcs ∙ h.ref_funcs;
  used_locals = λ l. k.used_locals l ∙ h.used_locals l;
}

-- if both contain the same facts before and the same facts after, a step of one is a step of the other
pub gather_alike : AreStepsAlike HoldsSameFacts Gathers
gather_alike s s' t t' e from to step = record {
  size = to.size ∙ (step.size ∙ ap (λ n. n + length (visited e)) (sym from.size));
  uses_data_segments = to.uses_data_segments ∙ (step.uses_data_segments ∙ ap (λ b. are_some (named e) || b) (sym from.uses_data_segments));
  ref_funcs = to.ref_funcs ∙ (step.ref_funcs ∙ ap (λ xs. xs ++ function_at e) (sym from.ref_funcs));
  used_locals = λ l. to.used_locals l ∙ (step.used_locals l ∙ ap (λ b. among l (local_at e) || b) (sym (from.used_locals l)));
}

-- a refusal depends only on what the facts say
pub decline_alike : AreRefusalsAlike HoldsSameFacts Declines
decline_alike s s' (StartSequence seq) f from h = h
decline_alike s s' (EndSequence seq) f from h = h
decline_alike s s' (VisitInstruction i location) f from h =
    let P : ℕ → Type 0 = λ n. 2 ^ 64 ≤ n + 1 in
    (h.0, subst P (sym from.size) h.1)
decline_alike s s' (NameFunction n) f from h = h
decline_alike s s' (NameLocal l) f from h = h
decline_alike s s' (NameData d) f from h = h
