-- Bodies that are rewritten: each as `walrus_rewrite::rewrite_body` writes the body of the source (WebAssembly core
-- specification 3.0, binary format, code section).
use Rattle.std.specs.Prelude.{◌≡◌, ◌+◌, ◌<◌, ℕ, List, [], ◌∷◌, ◌++◌, length, slice_get, Some, None, Ok}
use Rattle.wasm_types.specs.declared.val_type.ValType.{ValType}
use Rattle.walrus_ir.specs.Types.{ModuleType}
use Rattle.wasm_body.specs.SourceTree.{Body}
use Rattle.wasm_body.specs.Naming.{Occurrence}
use Rattle.wasm_body.specs.NormalForm.{body_tree}
use Rattle.wasm_body.specs.Pairs.{Pair}
use Rattle.wasm_body.specs.Parsing.Accepted.{Setting, Accepted}
use Rattle.walrus_parser.specs.declared.body.FunctionBody.{FunctionBody}
use Rattle.walrus_maps.specs.Environments.{environment_of}
use Rattle.walrus_maps.specs.IndexMaps.{local_of}
use Rattle.walrus_body.specs.FunctionParts.{FunctionParts}
use Rattle.walrus_parser.specs.Bodies.{IsFunction, body_setting, body_operators}
use Rattle.walrus_numbering.specs.NumberMaps.{numbers_by}
use Rattle.walrus_rewrite.specs.RawBodies.{emit_input, IsRawBody, IsRawBodyOf}
use Rattle.walrus_rewrite.specs.RewrittenBodies.{KeepsSource}
use Rattle.wasm_module.specs.declared.parsed.ParsedModule.{ParsedModule}
use Rattle.wasm_sections.specs.OtherLocals.{HasOtherLocals}
use Rattle.wasm_sections.specs.CodeSections.{BodyAt}
use Rattle.wasm_sections.specs.Declarations.{parameters_of_type, HaveLocals, first_numbers}
use Rattle.wasm_sections.specs.LocalsBelow.{locals_below}

-- ---- the module, as bodies are rewritten one after the other

-- Everything of the source is unchanged; types may be added after its own, and the locals are those of one body at a time.
pub record Extends (source now : ParsedModule) : Type 0 where
  pub bytes : now.bytes.now ≡ source.bytes.now
  pub types : (more : List ModuleType) × (now.module.types ≡ source.module.types ++ more)
  pub tags : now.module.tags ≡ source.module.tags
  pub spaces : HasOtherLocals source.spaces now.spaces
  pub func_types : now.func_types ≡ source.func_types
  pub imported : now.imported ≡ source.imported

-- ---- one body

-- The body of this function of the source is parsed in this way: with the function's type, with its parameters as arguments,
-- with the locals that its declarations add to them, each with its index as id, and from the first operator after the
-- declarations.
pub record Enters (source : ParsedModule) (function : ℕ) (b : BodyAt) (now : ParsedModule) (type : ℕ) (args : List ℕ) (count : ℕ) (body : FunctionBody) : Type 0 where
  pub extends : Extends source now
  pub is_type : slice_get source.func_types.items function ≡ Some type
  pub bytes : body.bytes.now ≡ b.bytes
  pub start : body.start ≡ b.start
  pub locals : HaveLocals now.spaces.indices (parameters_of_type now.module.types type) b.bytes (body_operators body) now.module.locals
  pub args_are : args ≡ first_numbers (length (parameters_of_type now.module.types type))
  pub count_is : count ≡ length now.module.locals
  pub local_ids : (local : ℕ) → local < count → local_of now.spaces.indices 0 local ≡ Ok local

-- The same, with what it is parsed with.
pub record Entered (source : ParsedModule) (function : ℕ) (b : BodyAt) (now : ParsedModule) : Type 0 where
  pub type : ℕ
  pub args : List ℕ
  pub count : ℕ
  pub body : FunctionBody
  pub enters : Enters source function b now type args count body

-- The operators of a body are parsed in the module and its index maps, with the validator that knows this number of locals.
abbrev pub setting_in : ParsedModule → (type count : ℕ) → FunctionBody → Setting ℕ
setting_in now type count body = body_setting now.module now.spaces.indices 0 type body locals_below count None

-- The operators of the body are accepted; and these bytes are the raw body of their normal form. It executes the operators of the source and ends in the same
-- way, and its pairs contain their locations, which are places in the file.
pub record IsRewrittenAs (now : ParsedModule) (type : ℕ) (args : List ℕ) (count : ℕ) (source : FunctionBody) (raw : List ℕ) (pairs : List Pair) : Type 0 where
  pub body : Body Occurrence
  pub accepted : Accepted (setting_in now type count source) (body_operators source) body
  pub is_raw_body :
      IsRawBody (record { to = numbers_by now.module.types now.spaces.numbers []; types = now.module.locals; args = args })
      (body_tree (environment_of now.module now.spaces.indices 0 type) body) raw pairs
  pub keeps :
      KeepsSource (environment_of now.module now.spaces.indices 0 type) accepted.operators body pairs

-- The body of this function of the source is rewritten as these bytes.
pub record IsRewritten (source : ParsedModule) (function : ℕ) (b : BodyAt) (raw : List ℕ) : Type 0 where
  pub now : ParsedModule
  pub entered : Entered source function b now
  pub pairs : List Pair
  pub is_rewritten : IsRewrittenAs now entered.type entered.args entered.count entered.body raw pairs

-- The same, with these location pairs.
pub record IsRewrittenWith (source : ParsedModule) (function : ℕ) (b : BodyAt) (raw : List ℕ) (pairs : List Pair) : Type 0 where
  pub rewritten : IsRewritten source function b raw
  pub pairs_are : pairs ≡ rewritten.pairs

-- ---- one body that is checked, or whose function is changed before it is written

-- The operators of this function's body, parsed with these declarations, are accepted.
pub record IsAccepted (source : ParsedModule) (function : ℕ) (b : BodyAt) (now : ParsedModule) : Type 0 where
  pub entered : Entered source function b now
  pub tree : Body Occurrence
  pub accepted : Accepted (setting_in now entered.type entered.count entered.body) (body_operators entered.body) tree

-- The operators are accepted, as above, and the function has their normal form, and these arguments.
pub record IsParsedAs (now : ParsedModule) (type : ℕ) (args : List ℕ) (count : ℕ) (source : FunctionBody) (made : FunctionParts) : Type 0 where
  pub body : Body Occurrence
  pub accepted : Accepted (setting_in now type count source) (body_operators source) body
  pub is_function : IsFunction made.builder (body_tree (environment_of now.module now.spaces.indices 0 type) body)
  pub args_are : made.args ≡ args

-- The function is the parsed body of this function of the source.
pub record IsParsed (source : ParsedModule) (function : ℕ) (b : BodyAt) (now : ParsedModule) (made : FunctionParts) : Type 0 where
  pub entered : Entered source function b now
  pub is_parsed : IsParsedAs now entered.type entered.args entered.count entered.body made

-- The same, whatever types are added.
abbrev pub IsParsedBody : (source : ParsedModule) (function : ℕ) (b : BodyAt) (made : FunctionParts) → Type 0
IsParsedBody source function b made = (now : ParsedModule) × IsParsed source function b now made

-- A change: the function with this index and its locals' types, as they were parsed; and as they are written.
abbrev pub OneChange : Type 1
OneChange = (function : ℕ) → (old new : FunctionParts) → (old_locals new_locals : List (ValType ℕ)) → Type 0

-- The body of this function of the source is parsed, its function and its locals are changed, and these bytes are the raw body of
-- the changed function with the changed locals, with these location pairs.
pub record IsChangedWith (changes : OneChange) (source : ParsedModule) (function : ℕ) (b : BodyAt) (raw : List ℕ) (pairs : List Pair) : Type 0 where
  pub now : ParsedModule
  pub parsed : FunctionParts
  pub is_parsed : IsParsed source function b now parsed
  pub changed : FunctionParts
  pub locals : List (ValType ℕ)
  pub is_changed : changes function parsed changed now.module.locals locals
  pub is_raw_body : IsRawBodyOf (emit_input now.spaces.numbers (record now.module { locals = locals }) changed) changed.builder raw pairs

-- The same, whatever the pairs are.
abbrev pub IsChanged : OneChange → (source : ParsedModule) (function : ℕ) (b : BodyAt) (raw : List ℕ) → Type 0
IsChanged changes source function b raw = (pairs : List Pair) × IsChangedWith changes source function b raw pairs

-- The function is changed in this way, and its locals stay as they are.
abbrev pub keeps_locals : ((function : ℕ) → (old new : FunctionParts) → Type 0) → OneChange
keeps_locals changes function old new old_locals new_locals = changes function old new × (new_locals ≡ old_locals)

-- ---- functions that are changed one after the other

-- The change that is made in a state, and the state afterwards.
abbrev pub FunctionChange : Type 0 → Type 1
FunctionChange State = (before after : State) → OneChange

-- Each function is changed alike: its locals and the state stay as they are.
abbrev pub alike : {State : Type 0} → (State → (function : ℕ) → (old new : FunctionParts) → Type 0) → FunctionChange State
alike {State} changes before after function old new old_locals new_locals =
    keeps_locals (changes before) function old new old_locals new_locals × (after ≡ before)

-- The bodies of the functions from this one on are changed in order, each once, and written as these bytes with these location
-- pairs: the first in the state `before`, and each other one in the state after the one before it. The last state is `after`.
abbrev pub AreChanged : {State : Type 0} → FunctionChange State → ParsedModule → (before : State) → (function : ℕ) → List BodyAt → (raws : List (List ℕ)) → (pairs : List (List Pair)) → (after : State) → Type 0
AreChanged {State} changes source before function [] [] [] after = before ≡ after
AreChanged {State} changes source before function (b ∷ bs) (raw ∷ raws) (ps ∷ pairs) after =
    (middle : State) × IsChangedWith (changes before middle) source function b raw ps
    × AreChanged changes source middle (function + 1) bs raws pairs after
AreChanged {State} changes source before function _ _ _ after = ⊥
