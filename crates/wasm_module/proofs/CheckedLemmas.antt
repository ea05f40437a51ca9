-- Bodies of a module that are checked, one after the other.
use Rattle.std.proofs.Common.{◌≡◌, ℕ, ◌+◌, ◌≤◌, List, [], ◌∷◌, ◌++◌, length, Option, Some, None, subst, arith}
use Rattle.wasm_sections.specs.declared.code.Bodies.{Bodies}
use Rattle.wasm_sections.specs.declared.code.Body.{Body}
use Rattle.wasm_sections.specs.CodeSections.{BodyAt, body_at, TakesBody}
use Rattle.wasm_module.specs.declared.parsed.ParsedModule.{ParsedModule}
use Rattle.wasm_module.specs.AcceptedModules.{AreAcceptedFrom, AcceptsBodies}
use Rattle.wasm_module.specs.ReadFrom.{IsModuleOf}
use Rattle.wasm_module.specs.ReadModules.{components_of, HasBodiesOf}
use Rattle.wasm_module.specs.RewrittenCode.{Extends, IsAccepted}
use Rattle.wasm_module.proofs.PassedLemmas.{BodiesLeft, none_passed, one_passed, all_passed}
use Rattle.wasm_module.proofs.RewritingLemmas.{entered_then}

-- ---- one body

pub accepted_then : (source a now : ParsedModule) (function : ℕ) (b : BodyAt) → Extends source a → IsAccepted a function b now → IsAccepted source function b now
accepted_then source a now function b e p = record { entered = entered_then source a now function b e p.entered; tree = p.tree; accepted = p.accepted }

accepted_more :
    (source : ParsedModule) (first function : ℕ) (bs : List BodyAt) (n : ℕ) (b : BodyAt) → AreAcceptedFrom source first function bs → n ≡ function + length bs →
    (first ≤ n → (now : ParsedModule) × IsAccepted source n b now) → AreAcceptedFrom source first function (bs ++ b ∷ [])
accepted_more source first function [] n b h e r =
    let same : n ≡ function = omega arith in
    (subst (λ (k : ℕ). first ≤ k → (now : ParsedModule) × IsAccepted source k b now) same r, tt)
accepted_more source first function (a ∷ bs) n b h e r =
    let next : n ≡ function + 1 + length bs = omega arith in
    (h.0, accepted_more source first (function + 1) bs n b h.1 next r)

-- ---- bodies that are checked

-- The bodies before the next one are accepted.
pub record CheckedSoFar (source : ParsedModule) (first : ℕ) (left : Bodies) : Type 0 where
  pub passed : List BodyAt
  pub left_is : BodiesLeft source passed left
  pub are_accepted : AreAcceptedFrom source first source.imported passed

pub none_checked :
    (file : List ℕ) (source : ParsedModule) (first : ℕ) (left : Bodies) → IsModuleOf file source → left.next ≡ source.imported → HasBodiesOf (components_of source).code left →
    CheckedSoFar source first left
none_checked file source first left reads next h = record { passed = []; left_is = none_passed file source left reads next h; are_accepted = tt }

pub one_checked :
    (source : ParsedModule) (first : ℕ) (s t : Bodies) (r : Option Body) (b : Body) → CheckedSoFar source first s → r ≡ Some b → TakesBody s r t →
    (first ≤ b.func → (now : ParsedModule) × IsAccepted source b.func (body_at b) now) → CheckedSoFar source first t
one_checked source first s t r b p i takes accepted =
    let next = one_passed source p.passed s t r b p.left_is i takes in
    record {
      passed = p.passed ++ body_at b ∷ [];
      left_is = next.left;
      are_accepted = accepted_more source first source.imported p.passed b.func (body_at b) p.are_accepted next.function_is accepted;
    }

pub all_checked :
    (source : ParsedModule) (first : ℕ) (s t : Bodies) (r : Option Body) → CheckedSoFar source first s → r ≡ None → TakesBody s r t → AcceptsBodies source first
all_checked source first s t r p i takes = record {
  bodies = p.passed;
  are_bodies = all_passed source p.passed s t r p.left_is i takes;
  are_accepted = p.are_accepted;
}
