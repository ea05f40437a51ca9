-- How calls end.
use Rattle.std.specs.Prelude.{◌≡◌, ◌≢◌, ◌⊎◌, ◌<◌, ◌≤◌, ◌+◌, ◌-◌, ◌^◌, ℕ, List, [], ◌∷◌, ◌++◌, length, drop, Bool, true, false, Option, None, Ok, Err, MatchOption}
use Rattle.wasm_sections.specs.declared.fault.ModuleError.{ModuleError}
use Rattle.wasm_sections.specs.declared.fault.ModuleFault.{ModuleFault}
use Rattle.wasm_sections.specs.declared.fault.ModuleFault.TheVariants.{Memory, TooGreat}
use Rattle.wasm_module.specs.declared.parsed.ParsedModule.{ParsedModule}
use Rattle.wasm_sections.specs.CodeSections.{BodyAt}
use Rattle.wasm_module.specs.AcceptedModules.{AreAcceptedFrom, AcceptsBodies}
use Rattle.wasm_module.specs.ModuleCode.{AreBodiesOf}
use Rattle.wasm_module.specs.ReadFrom.{IsModuleOf, IsOfReading}
use Rattle.wasm_module.specs.ReadModules.{components_of}
use Rattle.wasm_module.specs.Refusals.{IsRefusedBody}
use Rattle.module_validator.specs.ModuleRules.{module_validity}
use Rattle.wrewrite_c.specs.declared.options.Options.{Options}
use Rattle.wrewrite_c.specs.declared.outcome.Outcome.{Outcome}
use Rattle.wrewrite_c.specs.declared.outcome.Named.{Named}
use Rattle.wrewrite_c.specs.declared.outcome.Named.TheVariants.{One, None as NoneNamed, Several}
use Rattle.wrewrite_c.specs.declared.outcome.RefusedModule.{RefusedModule}
use Rattle.wrewrite_c.specs.declared.outcome.Stop.{Stop}
use Rattle.wrewrite_c.specs.declared.outcome.Stop.TheVariants.{Refused, NoFunction}
use Rattle.wrewrite_c.specs.Made.{is_among}
use Rattle.wrewrite_c.specs.Options.{AreOptions}

-- the index of a function, where there is none
abbrev pub no_index : ℕ
no_index = 2 ^ 64 - 1

-- how many bytes the module and its location map take
abbrev pub HasSizes : (size map_size : ℕ) → Outcome → Type 0
HasSizes size map_size o = (o.module_size ≡ size) × (o.map_size ≡ map_size)

-- ---- what is handed out

-- The bytes are put at the front of others, and what follows there stays.
abbrev pub IsPutIn : (bytes old new : List ℕ) → Type 0
IsPutIn bytes old new = (length bytes ≤ length old) × (new ≡ bytes ++ drop (length bytes) old)

-- A module and the lines of its map are put where they are wanted; or nothing is, since one of them doesn't fit.
pub data IsDelivered (bytes lines out out' map map' : List ℕ) (o : Outcome) : Type 0 where
  both_fit : o.status ≡ 0 → HasSizes (length bytes) (length lines) o → IsPutIn bytes out out' → IsPutIn lines map map' → IsDelivered bytes lines out out' map map' o
  one_is_too_large :
      o.status ≡ 3 → HasSizes (length bytes) (length lines) o → (length out < length bytes) ⊎ (length map < length lines) → out' ≡ out → map' ≡ map →
      IsDelivered bytes lines out out' map map' o

-- ---- why nothing is made

-- the status for a fault: 4 where memory ran out, and else 1
abbrev pub IsStatusOf : ModuleFault → (status : ℕ) → Type 0
IsStatusOf fault status = (fault ≡ Memory → status ≡ 4) × (fault ≢ Memory → status ≡ 1)

-- the place for a fault: its own, where it has one
abbrev pub IsPlaceOf : ModuleError → (place : ℕ) → Type 0
IsPlaceOf error place = error.fault ≢ Memory → error.fault ≢ TooGreat → place ≡ error.at

pub record IsOfRefused (r : RefusedModule) (o : Outcome) : Type 0 where
  pub status : IsStatusOf r.error.fault o.status
  pub place : IsPlaceOf r.error o.place
  pub function : MatchOption r.function (o.function ≡ no_index) (λ index. o.function ≡ index)

-- the outcome for what stopped a call: 2 where a function is named that has no body
abbrev pub IsStopped : Stop → Outcome → Type 0
IsStopped (Refused r) o = IsOfRefused r o
IsStopped (NoFunction index) o = (o.status ≡ 2) × (o.function ≡ index)

-- It is the module that is refused, or memory ran out.
abbrev pub IsOfModule : Stop → Type 0
IsOfModule (Refused r) = Unit {0}
IsOfModule (NoFunction index) = ⊥

-- A function with a body has this index.
abbrev pub HasBody : ParsedModule → (index : ℕ) → Type 0
HasBody parsed index = (parsed.imported ≤ index) × (index < length parsed.func_types.items)

-- no function with a body has this index; or memory ran out
abbrev pub IsMissing : ParsedModule → (index : ℕ) → Stop → Type 0
IsMissing parsed index (Refused r) = r.error.fault ≡ Memory
IsMissing parsed index (NoFunction other) = (other ≡ index) × (HasBody parsed other → ⊥)

-- or one of these indices
abbrev pub IsMissingIn : ParsedModule → (indices : List ℕ) → Stop → Type 0
IsMissingIn parsed indices (Refused r) = r.error.fault ≡ Memory
IsMissingIn parsed indices (NoFunction index) = (is_among indices index ≡ true) × (HasBody parsed index → ⊥)

-- The same; or the module is refused.
abbrev pub LacksFunctionIn : ParsedModule → (indices : List ℕ) → Stop → Type 0
LacksFunctionIn parsed indices (Refused r) = Unit {0}
LacksFunctionIn parsed indices (NoFunction index) = (is_among indices index ≡ true) × (HasBody parsed index → ⊥)

-- The same of the module that these bytes spell.
abbrev pub LacksFunction : (indices source : List ℕ) → Stop → Type 0
LacksFunction indices source (Refused r) = Unit {0}
LacksFunction indices source (NoFunction index) =
    (is_among indices index ≡ true) × ((parsed : ParsedModule) × IsModuleOf source parsed × (HasBody parsed index → ⊥))

-- ---- functions with names

-- The function that is found has a body in this module.
abbrev pub IsNamedFunction : ParsedModule → Named → Type 0
IsNamedFunction parsed (One index) = HasBody parsed index
IsNamedFunction parsed NoneNamed = Unit {0}
IsNamedFunction parsed Several = Unit {0}

-- the same of the module that these bytes spell
abbrev pub IsNamedIn : (source : List ℕ) → Named → Type 0
IsNamedIn source named = (parsed : ParsedModule) × IsModuleOf source parsed × IsNamedFunction parsed named

-- the outcome of a search: 2 where no function, or more than one, has the name
abbrev pub IsOfNamed : Named → Outcome → Type 0
IsOfNamed (One index) o = (o.status ≡ 0) × (o.function ≡ index)
IsOfNamed NoneNamed o = (o.status ≡ 2) × (o.function ≡ no_index)
IsOfNamed Several o = (o.status ≡ 2) × (o.function ≡ no_index)

-- ---- calls

-- A call makes a module, as is said of its bytes and the lines of its map; or stops, for a reason that may come.
pub data Ends (IsMade : (bytes lines : List ℕ) → Type 0) (MayStop : Stop → Type 0) (out out' map map' : List ℕ) (o : Outcome) : Type 0 where
  made :
      (bytes lines : List ℕ) → IsMade bytes lines → IsDelivered bytes lines out out' map map' o →
      Ends IsMade MayStop out out' map map' o
  stopped : (stop : Stop) → MayStop stop → IsStopped stop o → HasSizes 0 0 o → out' ≡ out → map' ≡ map → Ends IsMade MayStop out out' map map' o

-- The module isn't read, since memory ran out, or for the first fault of what its bytes spell.
abbrev pub IsNotRead : (source : List ℕ) → Stop → Type 0
IsNotRead source (Refused r) = (r.function ≡ None) × IsOfReading source r.error
IsNotRead source (NoFunction index) = ⊥

-- This function is refused for this fault, from the first that is looked at on: the bodies before its own are accepted.
pub record IsOfFunction (parsed : ParsedModule) (first : ℕ) (error : ModuleError) (function : ℕ) : Type 0 where
  pub follows : first ≤ function
  pub before : List BodyAt
  pub body : BodyAt
  pub after : List BodyAt
  pub are_bodies : AreBodiesOf (components_of parsed) (before ++ body ∷ after)
  pub are_accepted : AreAcceptedFrom parsed first parsed.imported before
  pub function_is : function ≡ parsed.imported + length before
  pub now : ParsedModule
  pub is_refused : IsRefusedBody parsed function body now error

-- A function of the module is refused.
abbrev pub IsOfBodies : ParsedModule → (first : ℕ) → Stop → Type 0
IsOfBodies parsed first (Refused r) = MatchOption r.function ⊥ (IsOfFunction parsed first r.error)
IsOfBodies parsed first (NoFunction index) = ⊥

-- The module isn't read; or a function of the one that the bytes spell is refused, which is named.
abbrev pub IsOfCheck : (source : List ℕ) → (first : ℕ) → Stop → Type 0
IsOfCheck source first stop = IsNotRead source stop ⊎ ((parsed : ParsedModule) × IsModuleOf source parsed × IsOfBodies parsed first stop)

-- The bytes spell a module, and each of its functions from this one on that has a body is accepted.
abbrev pub IsAcceptedFrom : (source : List ℕ) → (first : ℕ) → Type 0
IsAcceptedFrom source first = (parsed : ParsedModule) × IsModuleOf source parsed × AcceptsBodies parsed first

-- A check finds nothing that is refused, or this.
pub data IsChecked (source : List ℕ) (first : ℕ) (o : Outcome) : Type 0 where
  accepted : o.status ≡ 0 → IsAcceptedFrom source first → HasSizes 0 0 o → IsChecked source first o
  refused : (stop : Stop) → IsOfCheck source first stop → IsStopped stop o → HasSizes 0 0 o → IsChecked source first o

-- The bytes spell a module, and it is valid.
abbrev pub IsValidModule : (source : List ℕ) → Type 0
IsValidModule source = (parsed : ParsedModule) × IsModuleOf source parsed × (module_validity source ≡ Ok tt)

-- The module isn't read; or this is the first fault for which it isn't valid; or memory ran out.
abbrev pub IsOfValidation : (source : List ℕ) → Stop → Type 0
IsOfValidation source (Refused r) =
    IsNotRead source (Refused r) ⊎ (r.error.fault ≡ Memory) ⊎ ((parsed : ParsedModule) × IsModuleOf source parsed × (module_validity source ≡ Err r.error))
IsOfValidation source (NoFunction index) = ⊥

-- A module is valid, or this.
pub data HasVerdict (source : List ℕ) (o : Outcome) : Type 0 where
  valid : o.status ≡ 0 → IsValidModule source → HasSizes 0 0 o → HasVerdict source o
  invalid : (stop : Stop) → IsOfValidation source stop → IsStopped stop o → HasSizes 0 0 o → HasVerdict source o

-- A search by name finds a function with a body, or none, or several; or the module isn't read.
pub data IsFound (source : List ℕ) (o : Outcome) : Type 0 where
  found : (named : Named) → IsNamedIn source named → IsOfNamed named o → HasSizes 0 0 o → IsFound source o
  not_read : (stop : Stop) → IsNotRead source stop → IsStopped stop o → HasSizes 0 0 o → IsFound source o

-- A call ends in a way that depends on its options; or they say nothing, the status is 5, and nothing is written.
pub data Asks (words : List ℕ) (Ends : Options → Type 0) (out out' map map' : List ℕ) (o : Outcome) : Type 0 where
  asked : (wanted : Options) → AreOptions words wanted → Ends wanted → Asks words Ends out out' map map' o
  not_asked :
      ((wanted : Options) → AreOptions words wanted → ⊥) → o.status ≡ 5 → HasSizes 0 0 o → out' ≡ out → map' ≡ map → Asks words Ends out out' map map' o
