-- Functions of a module that are visited one after the other, as they are parsed (WebAssembly core specification 3.0, binary
-- format, code section).
use Rattle.std.specs.Prelude.{◌≡◌, ◌⊎◌, ◌+◌, ℕ, List, [], ◌∷◌, ◌++◌, length, Result, Ok, Err}
use Rattle.std.specs.Borrow.{Bor}
use Rattle.walrus_body.specs.FunctionParts.{FunctionParts}
use Rattle.wasm_sections.specs.declared.fault.ModuleError.{ModuleError}
use Rattle.wasm_sections.specs.CodeSections.{BodyAt}
use Rattle.wasm_module.specs.declared.parsed.ParsedModule.{ParsedModule}
use Rattle.wasm_module.specs.ModuleCode.{AreBodiesOf}
use Rattle.wasm_module.specs.ReadModules.{components_of}
use Rattle.wasm_module.specs.Refusals.{IsRefusedBody}
use Rattle.wasm_module.specs.RewrittenCode.{IsParsed}

-- What a visitor does in a state: it is called with the index of a function and the function, returns this, and has this state
-- afterwards.
abbrev pub Visitor : Type 0 → Type 1
Visitor F = (before : F) → (function : ℕ) → (lent : Bor FunctionParts) → (returned : Result (Unit {0}) ModuleError) → (after : F) → Type 0

-- The body of this function of the source is parsed, and the visitor is called with its index and the parsed function.
pub record IsVisited {F : Type 0} (visits : Visitor F) (source : ParsedModule) (before : F) (function : ℕ) (b : BodyAt) (returned : Result (Unit {0}) ModuleError) (after : F) : Type 0 where
  pub now : ParsedModule
  pub lent : Bor FunctionParts
  pub is_parsed : IsParsed source function b now lent.now
  pub is_called : visits before function lent returned after

-- The functions from this one on are visited in order, each once: the first in the state `before`, and each other one in the
-- state after the one before it. The last state is `after`.
abbrev pub AreVisited : {F : Type 0} → Visitor F → ParsedModule → (before : F) → (function : ℕ) → List BodyAt → (after : F) → Type 0
AreVisited visits source before function [] after = before ≡ after
AreVisited {F} visits source before function (b ∷ bs) after =
    (middle : F) × IsVisited visits source before function b (Ok tt) middle × AreVisited visits source middle (function + 1) bs after

-- Each function of the module that isn't imported is visited.
pub record VisitsFunctions {F : Type 0} (visits : Visitor F) (source : ParsedModule) (before after : F) : Type 0 where
  pub bodies : List BodyAt
  pub are_bodies : AreBodiesOf (components_of source) bodies
  pub are_visited : AreVisited visits source before source.imported bodies after

-- A body isn't parsed, for this error; or the visitor returns it for the parsed function.
abbrev pub StopsVisits : {F : Type 0} → Visitor F → ParsedModule → (before : F) → (function : ℕ) → BodyAt → ModuleError → Type 0
StopsVisits {F} visits source before function b e =
    ((now : ParsedModule) × IsRefusedBody source function b now e) ⊎ ((after : F) × IsVisited visits source before function b (Err e) after)

-- The functions before this error are visited, and none after it.
pub record VisitsFunctionsUpTo {F : Type 0} (visits : Visitor F) (source : ParsedModule) (before : F) (e : ModuleError) : Type 0 where
  pub passed : List BodyAt
  pub body : BodyAt
  pub others : List BodyAt
  pub are_bodies : AreBodiesOf (components_of source) (passed ++ body ∷ others)
  pub after : F
  pub are_visited : AreVisited visits source before source.imported passed after
  pub stops : StopsVisits visits source after (source.imported + length passed) body e
