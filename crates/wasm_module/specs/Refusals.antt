-- Bodies that are refused: because memory ran out, or for the first fault of the body (WebAssembly core specification 3.0,
-- binary format, code section).
use Rattle.std.specs.Prelude.{◌≡◌, ◌⊎◌, ◌<◌, ℕ, List, [], length, slice_get, Some}
use Rattle.wasm_types.specs.declared.val_type.ValType.{ValType}
use Rattle.wasm_body.specs.SourceTree.{Body}
use Rattle.wasm_body.specs.Naming.{Occurrence}
use Rattle.wasm_body.specs.NormalForm.{body_tree}
use Rattle.wasm_body.specs.declared.error.EmitError.{EmitError}
use Rattle.wasm_body.specs.declared.error.ParseFailure.{ParseFailure}
use Rattle.wasm_body.specs.Parsing.Accepted.{Accepted, FirstFault}
use Rattle.walrus_maps.specs.Environments.{environment_of}
use Rattle.walrus_parser.specs.Bodies.{body_operators}
use Rattle.walrus_numbering.specs.NumberMaps.{numbers_by}
use Rattle.walrus_rewrite.specs.declared.error.RewriteError.{RewriteError}
use Rattle.walrus_rewrite.specs.declared.error.RewriteError.TheVariants.{Parse, Walk, Emit}
use Rattle.walrus_rewrite.specs.RawBodies.{HasNoParsedBody}
use Rattle.wasm_sections.specs.declared.fault.ModuleError.{ModuleError}
use Rattle.wasm_sections.specs.declared.fault.ModuleFault.{ModuleFault}
use Rattle.wasm_sections.specs.declared.fault.ModuleFault.TheVariants.{Memory}
use Rattle.wasm_sections.specs.Faults.{parse_fault, walk_fault, emit_fault}
use Rattle.wasm_module.specs.declared.parsed.ParsedModule.{ParsedModule}
use Rattle.wasm_sections.specs.CodeSections.{BodyAt}
use Rattle.wasm_sections.specs.Declarations.{parameters_of_type, HaveLocals, max_locals}
use Rattle.wasm_module.specs.RewrittenCode.{Entered, setting_in}

-- the fault of a body that isn't rewritten
abbrev pub rewriting_fault : RewriteError → ModuleFault
rewriting_fault (Parse f) = parse_fault f.error
rewriting_fault (Walk w) = walk_fault w
rewriting_fault (Emit e) = emit_fault e

-- the place in the file of a fault of a body that begins at this place
abbrev pub place_in_file : ℕ → RewriteError → ℕ
place_in_file start (Parse f) = f.at
place_in_file start (Walk w) = start
place_in_file start (Emit e) = start

-- The function has no type, or its body doesn't begin with declarations, or with them it has too many locals.
abbrev pub HasNoFront : ParsedModule → (function : ℕ) → (bytes : List ℕ) → Type 0
HasNoFront now function bytes =
    (type : ℕ) (operators : List ℕ) (locals : List (ValType ℕ)) → slice_get now.func_types.items function ≡ Some type →
    HaveLocals now.spaces.indices (parameters_of_type now.module.types type) bytes operators locals → max_locals < length locals

-- The operators of this function's body, parsed with these declarations, have a first fault, which the error names, with its place in the
-- file.
pub record HasFirstFault (source : ParsedModule) (function : ℕ) (b : BodyAt) (now : ParsedModule) (e : ModuleError) : Type 0 where
  pub entered : Entered source function b now
  pub failure : ParseFailure
  pub is_first : FirstFault (setting_in now entered.type entered.count entered.body) (body_operators entered.body) failure
  pub fault : e.fault ≡ parse_fault failure.error
  pub place : e.at ≡ failure.at

-- The body of this function of the source isn't parsed, in the module as it is then.
abbrev pub IsRefusedBody : ParsedModule → ℕ → BodyAt → ParsedModule → ModuleError → Type 0
IsRefusedBody source function b now e = (e.fault ≡ Memory) ⊎ (HasNoFront now function b.bytes ⊎ HasFirstFault source function b now e)

-- The operators are accepted, but their normal form has no raw body, for one of the reasons why that of a parsed body has none. The error
-- names it, with the place of the body.
pub record HasNoBytes (source : ParsedModule) (function : ℕ) (b : BodyAt) (now : ParsedModule) (e : ModuleError) : Type 0 where
  pub entered : Entered source function b now
  pub tree : Body Occurrence
  pub accepted : Accepted (setting_in now entered.type entered.count entered.body) (body_operators entered.body) tree
  pub error : EmitError
  pub has_none :
      HasNoParsedBody (record { to = numbers_by now.module.types now.spaces.numbers []; types = now.module.locals; args = entered.args })
      (body_tree (environment_of now.module now.spaces.indices 0 entered.type) tree) error
  pub fault : e.fault ≡ emit_fault error
  pub place : e.at ≡ b.start

-- The body of this function of the source isn't rewritten.
abbrev pub IsNotRewritten : ParsedModule → ℕ → BodyAt → ParsedModule → ModuleError → Type 0
IsNotRewritten source function b now e = IsRefusedBody source function b now e ⊎ HasNoBytes source function b now e
