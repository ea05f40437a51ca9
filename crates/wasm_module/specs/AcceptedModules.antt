-- Modules whose bodies are accepted (WebAssembly core specification 3.0, binary format, code section; validation, modules).
use Rattle.std.specs.Prelude.{◌≤◌, ◌+◌, ℕ, List, [], ◌∷◌}
use Rattle.wasm_sections.specs.CodeSections.{BodyAt}
use Rattle.wasm_module.specs.declared.parsed.ParsedModule.{ParsedModule}
use Rattle.wasm_module.specs.ModuleCode.{AreBodiesOf}
use Rattle.wasm_module.specs.ReadModules.{components_of}
use Rattle.wasm_module.specs.RewrittenCode.{IsAccepted}

-- The bodies of the functions from this one on are accepted, in order, each as that of its function. Of functions before `first`
-- nothing is said.
abbrev pub AreAcceptedFrom : ParsedModule → (first function : ℕ) → List BodyAt → Type 0
AreAcceptedFrom source first function [] = Unit {0}
AreAcceptedFrom source first function (b ∷ bs) =
    (first ≤ function → (now : ParsedModule) × IsAccepted source function b now) × AreAcceptedFrom source first (function + 1) bs

-- The bodies of the module are accepted: that of each function that isn't imported, from the function `first` on.
pub record AcceptsBodies (source : ParsedModule) (first : ℕ) : Type 0 where
  pub bodies : List BodyAt
  pub are_bodies : AreBodiesOf (components_of source) bodies
  pub are_accepted : AreAcceptedFrom source first source.imported bodies
