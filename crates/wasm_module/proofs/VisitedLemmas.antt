-- Functions of a module that are visited, one after the other.
use Rattle.std.proofs.Common.{◌≡◌, ℕ, ◌+◌, List, [], ◌∷◌, ◌++◌, length, Option, Some, None, Result, Ok, Err, IfErr, OnOk, refl, sym, subst, inl, inr, arith}
use Rattle.std.specs.Borrow.{Bor}
use Rattle.walrus_body.specs.FunctionParts.{FunctionParts}
use Rattle.wasm_sections.specs.declared.code.Bodies.{Bodies}
use Rattle.wasm_sections.specs.declared.code.Body.{Body}
use Rattle.wasm_sections.specs.declared.fault.ModuleError.{ModuleError}
use Rattle.wasm_sections.specs.CodeSections.{BodyAt, body_at, TakesBody}
use Rattle.wasm_module.specs.declared.parsed.ParsedModule.{ParsedModule}
use Rattle.wasm_module.specs.ReadFrom.{IsModuleOf}
use Rattle.wasm_module.specs.ReadModules.{components_of, HasBodiesOf}
use Rattle.wasm_module.specs.RewrittenCode.{Extends, IsParsed}
use Rattle.wasm_module.specs.VisitedFunctions.{Visitor, IsVisited, AreVisited, VisitsFunctions, StopsVisits, VisitsFunctionsUpTo}
use Rattle.wasm_module.proofs.PassedLemmas.{BodiesLeft, none_passed, one_passed, all_passed}
use Rattle.wasm_module.proofs.RefusalLemmas.{refused_then}
use Rattle.wasm_module.proofs.RewritingLemmas.{parsed_then}

module _ {F : Type 0} (visits : Visitor F) (source : ParsedModule) where
  visited_then :
      (a : ParsedModule) (before : F) (function : ℕ) (b : BodyAt) (returned : Result (Unit {0}) ModuleError) (after : F) → Extends source a →
      IsVisited visits a before function b returned after → IsVisited visits source before function b returned after
  visited_then a before function b returned after x v = record {
    now = v.now;
    lent = v.lent;
    is_parsed = parsed_then source a v.now function b v.lent.now x v.is_parsed;
    is_called = v.is_called;
  }

  stops_then : (a : ParsedModule) (before : F) (function : ℕ) (b : BodyAt) (e : ModuleError) → Extends source a → StopsVisits visits a before function b e → StopsVisits visits source before function b e
  stops_then a before function b e x (inl refused) = inl (refused.0, refused_then source a refused.0 function b e x refused.1)
  stops_then a before function b e x (inr visited) = inr (visited.0, visited_then a before function b (Err e) visited.0 x visited.1)

  -- of a call, by what it returns
  pub if_visited :
      (now : ParsedModule) (before : F) (function : ℕ) (b : BodyAt) (lent : Bor FunctionParts) (r : Result (Unit {0}) ModuleError) (after : F) → IsParsed source function b now lent.now →
      visits before function lent r after → OnOk r (IsVisited visits source before function b (Ok tt) after)
  if_visited now before function b lent (Ok u) after p v = record { now = now; lent = lent; is_parsed = p; is_called = v }
  if_visited now before function b lent (Err e) after p v = tt

  pub if_stopped :
      (now : ParsedModule) (before : F) (function : ℕ) (b : BodyAt) (lent : Bor FunctionParts) (r : Result (Unit {0}) ModuleError) (after : F) → IsParsed source function b now lent.now →
      visits before function lent r after → IfErr r (StopsVisits visits source before function b)
  if_stopped now before function b lent (Ok u) after p v = tt
  if_stopped now before function b lent (Err e) after p v = inr (after, record { now = now; lent = lent; is_parsed = p; is_called = v })

  visited_more :
      (before middle after : F) (f : ℕ) (bs : List BodyAt) (n : ℕ) (b : BodyAt) → AreVisited visits source before f bs middle → n ≡ f + length bs →
      IsVisited visits source middle n b (Ok tt) after → AreVisited visits source before f (bs ++ b ∷ []) after
  visited_more before middle after f [] n b h e v =
      let same : n ≡ f = omega arith in
      let there = subst (λ (k : ℕ). IsVisited visits source middle k b (Ok tt) after) same v in
      (after, subst (λ (s : F). IsVisited visits source s f b (Ok tt) after) (sym h) there, refl)
  visited_more before middle after f (a ∷ bs) n b h e v =
      let next : n ≡ f + 1 + length bs = omega arith in
      (h.0, h.1, visited_more h.0 middle after (f + 1) bs n b h.2 next v)

  -- The functions before the next one are visited.
  pub record VisitedSoFar (before : F) (left : Bodies) (now : F) : Type 0 where
    pub passed : List BodyAt
    pub left_is : BodiesLeft source passed left
    pub are_visited : AreVisited visits source before source.imported passed now

  pub none_visited :
      (file : List ℕ) (before : F) (left : Bodies) → IsModuleOf file source → left.next ≡ source.imported → HasBodiesOf (components_of source).code left → VisitedSoFar before left before
  none_visited file before left reads next h = record { passed = []; left_is = none_passed file source left reads next h; are_visited = refl }

  pub one_visited :
      (a : ParsedModule) (before middle after : F) (s t : Bodies) (r : Option Body) (b : Body) → VisitedSoFar before s middle → r ≡ Some b → TakesBody s r t → Extends source a →
      IsVisited visits a middle b.func (body_at b) (Ok tt) after → VisitedSoFar before t after
  one_visited a before middle after s t r b p i takes x v =
      let next = one_passed source p.passed s t r b p.left_is i takes in
      record {
        passed = p.passed ++ body_at b ∷ [];
        left_is = next.left;
        are_visited =
            visited_more before middle after source.imported p.passed b.func (body_at b) p.are_visited next.function_is
            (visited_then a middle b.func (body_at b) (Ok tt) after x v);
      }

  pub all_visited :
      (before after : F) (s t : Bodies) (r : Option Body) → VisitedSoFar before s after → r ≡ None → TakesBody s r t → VisitsFunctions visits source before after
  all_visited before after s t r p i takes = record {
    bodies = p.passed;
    are_bodies = all_passed source p.passed s t r p.left_is i takes;
    are_visited = p.are_visited;
  }

  pub visited_up_to :
      (a : ParsedModule) (before middle : F) (s t : Bodies) (r : Option Body) (b : Body) (e : ModuleError) → VisitedSoFar before s middle → r ≡ Some b → TakesBody s r t → Extends source a →
      StopsVisits visits a middle b.func (body_at b) e → VisitsFunctionsUpTo visits source before e
  visited_up_to a before middle s t r b e p i takes x stops =
      let next = one_passed source p.passed s t r b p.left_is i takes in
      record {
        passed = p.passed;
        body = body_at b;
        others = next.after;
        are_bodies = next.are_bodies;
        after = middle;
        are_visited = p.are_visited;
        stops =
            subst (λ (k : ℕ). StopsVisits visits source middle k (body_at b) e) next.function_is (stops_then a middle b.func (body_at b) e x stops);
      }
