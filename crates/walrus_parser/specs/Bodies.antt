-- Parsing a body with a caller's location function and a caller's validator.
use Rattle.std.specs.Prelude.{◌≡◌, ◌⊎◌, ℕ, ◌+◌, List, length, drop, Option, Some, Result, Ok, Err}
use Rattle.std.specs.Borrow.{Bor}
use Rattle.std.specs.Fn.{Shared}
use Rattle.walrus_ir.specs.declared.module.Module.{Module}
use Rattle.walrus_ir.specs.Function.{Function}
use Rattle.wasm_operators.specs.OperatorList.{Placed}
use Rattle.wasm_ops.specs.Position.{Position}
use Rattle.wasm_body.specs.declared.error.ParseError.TheVariants.{Memory}
use Rattle.wasm_body.specs.declared.error.ParseFailure.{ParseFailure}
use Rattle.wasm_body.specs.SourceTree.{Body}
use Rattle.wasm_body.specs.FunctionTree.{FunctionTree}
use Rattle.wasm_body.specs.Naming.{Environment, Occurrence}
use Rattle.wasm_body.specs.NormalForm.{typing_of, normal_form, named_body}
use Rattle.wasm_body.specs.TreeOfFunction.{HasTree}
use Rattle.wasm_body.specs.Parsing.Accepted.{Setting, Accepted, FirstFault}
use Rattle.wasm_body.specs.Parsing.Lists.{parsed_from}
use Rattle.wasm_body.specs.Parsing.Progress.{nothing_read}
use Rattle.walrus_maps.specs.declared.indices_to_ids.IndicesToIds.{IndicesToIds}
use Rattle.walrus_parser.specs.declared.body.FunctionBody.{FunctionBody}
use Rattle.walrus_parser.specs.declared.parse.ParsedOperators.{ParsedOperators}
use Rattle.walrus_maps.specs.Environments.{environment_of}
use Rattle.walrus_parser.specs.Settings.{given_with, BothOrNone, operators_of, locations_in, IsMapping}

-- The input of a parse: the environment that names the parts of the body, the place of its first operator, the code offset, the
-- caller's location function, the validator and its first state, and the bytes of the operators.
pub record ParseInput (S F : Type 0) : Type 0 where
  pub environment : Environment
  pub start : ℕ
  pub offset : ℕ
  pub on_instr_pos : Option (Bor F)
  pub check : S → Placed → Result S ℕ
  pub first : S
  pub bytes : List ℕ

-- the setting of a parse, with this function in place of the caller's location function
abbrev pub setting_with : {S F : Type 0} → ParseInput S F → Option (ℕ → ℕ) → Setting S
setting_with i locations = given_with i.environment i.start i.check i.first locations

-- the operators of this function's body, the first of which is at `start`
abbrev pub input_of : {S F : Type 0} → Module → IndicesToIds → (function type start : ℕ) → (bytes : List ℕ) → Option (Bor F) → (S → Placed → Result S ℕ) → S → ParseInput S F
input_of m indices function type start bytes on_instr_pos check first = record {
  environment = environment_of m indices function type;
  start = start;
  offset = m.code_section_offset;
  on_instr_pos = on_instr_pos;
  check = check;
  first = first;
  bytes = bytes;
}

-- the bytes of a body's operators
abbrev pub body_operators : FunctionBody → List ℕ
body_operators body = drop body.ops body.bytes.now

-- the setting in which a body is parsed, with this function in place of the caller's location function
abbrev pub body_setting : {S : Type 0} → Module → IndicesToIds → (function type : ℕ) → FunctionBody → (S → Placed → Result S ℕ) → S → Option (ℕ → ℕ) → Setting S
body_setting m indices function type body check first locations =
    given_with (environment_of m indices function type) (body.start + body.ops) check first locations

-- the input for a body
abbrev pub body_input : {S F : Type 0} → Module → IndicesToIds → (function type : ℕ) → FunctionBody → Option (Bor F) → (S → Placed → Result S ℕ) → S → ParseInput S F
body_input m indices function type body on_instr_pos check first =
    input_of m indices function type (body.start + body.ops) (body_operators body) on_instr_pos check first

-- the input for the operators that a reader is to read
abbrev pub operators_input : {S F : Type 0} → Environment → Position → (offset : ℕ) → Option (Bor F) → (S → Placed → Result S ℕ) → S → ParseInput S F
operators_input env position offset on_instr_pos check first = record {
  environment = env;
  start = position.place;
  offset = offset;
  on_instr_pos = on_instr_pos;
  check = check;
  first = first;
  bytes = position.rest;
}

-- From its entry on, the function has this tree.
pub record IsFunction (function : Function) (tree : FunctionTree) : Type 0 where
  pub entry : function.entry ≡ Some 0
  pub holds : HasTree function.sequences 0 tree

module _ {S F : Type 0} (i : ParseInput S F) where
  -- This holds if the bytes are accepted as a body, with any location function if the caller passed one, else without.
  abbrev pub IfAccepted : Type 0 → Type 0
  IfAccepted Holds = (locations : Option (ℕ → ℕ)) (b : Body Occurrence) → BothOrNone i.on_instr_pos locations → Accepted (setting_with i locations) i.bytes b → Holds

  -- This holds of the bytes' first fault, if they have one.
  abbrev pub IfFirstFault : (ParseFailure → Type 0) → Type 0
  IfFirstFault Holds = (locations : Option (ℕ → ℕ)) (f : ParseFailure) → BothOrNone i.on_instr_pos locations → FirstFault (setting_with i locations) i.bytes f → Holds f

module _ {S F : Type 0} (calls : Shared F (Bor ℕ × Unit {0}) ℕ) (i : ParseInput S F) where
  -- there is a location function exactly if the caller passed one
  abbrev pub AreGiven : Option (ℕ → ℕ) → Type 0
  AreGiven locations = BothOrNone i.on_instr_pos locations

  -- the location function of a mapping
  abbrev pub mapped_by : List (ℕ × ℕ) → Option (ℕ → ℕ)
  mapped_by mapping = locations_in i.on_instr_pos i.offset mapping

  -- The bytes are accepted as a body, with the locations of the mapping. The function has the body's normal form, and its type.
  -- The mapping has the caller's location for each of the body's operators.
  pub record AcceptsBody (function : Function) (mapping : List (ℕ × ℕ)) : Type 0 where
    pub body : Body Occurrence
    pub accepted : Accepted (setting_with i (mapped_by mapping)) i.bytes body
    pub type : function.type ≡ i.environment.type
    pub is_function : IsFunction function (normal_form (typing_of i.environment) (named_body body))
    pub is_mapping : IsMapping calls i.on_instr_pos i.offset i.start (i.start + length i.bytes) (operators_of body) mapping

  -- This is the first fault, whatever the location function; or memory ran out, for the validator or for a list.
  abbrev pub RefusesBody : ParseFailure → Type 0
  RefusesBody f = (f.error ≡ Memory) ⊎ ((locations : Option (ℕ → ℕ)) → AreGiven locations → FirstFault (setting_with i locations) i.bytes f)

  -- ---- the same if the function's own type is right, operator by operator

  abbrev pub operators_parsed : Option (ℕ → ℕ) → Result (Body Occurrence) ParseFailure
  operators_parsed locations = parsed_from (setting_with i locations) (length i.bytes) nothing_read i.first i.start i.bytes

  pub record HoldsBody (made : ParsedOperators) : Type 0 where
    pub body : Body Occurrence
    pub is_parsed : operators_parsed (mapped_by made.instruction_mapping.items) ≡ Ok body
    pub type : made.builder.type ≡ i.environment.type
    pub is_function : IsFunction made.builder (normal_form (typing_of i.environment) (named_body body))
    pub is_mapping : IsMapping calls i.on_instr_pos i.offset i.start (i.start + length i.bytes) (operators_of body) made.instruction_mapping.items

  abbrev pub IsRefusedAnyway : ParseFailure → Type 0
  IsRefusedAnyway f = (locations : Option (ℕ → ℕ)) → AreGiven locations → operators_parsed locations ≡ Err f

  abbrev pub ParsesOperators : Result ParsedOperators ParseFailure → Type 0
  ParsesOperators (Ok made) = HoldsBody made
  ParsesOperators (Err f) = (f.error ≡ Memory) ⊎ IsRefusedAnyway f
