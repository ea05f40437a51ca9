-- Functions with a body that are added (WebAssembly core specification 3.0, binary format, function section and code section).
use Rattle.std.specs.Prelude.{◌≡◌, ◌+◌, ℕ, List, [], length, Ok}
use Rattle.wasm_types.specs.declared.val_type.ValType.{ValType}
use Rattle.wasm_operators.specs.declared.types.Space.TheVariants.{Funcs, Types}
use Rattle.wasm_operators.specs.Shortest.{short_number}
use Rattle.wasm_body.specs.Pairs.{Pair}
use Rattle.walrus_maps.specs.IndexMaps.{number_of, with_next_number}
use Rattle.walrus_numbering.specs.NumberMaps.{numbers_by}
use Rattle.walrus_body.specs.FunctionParts.{FunctionParts}
use Rattle.walrus_rewrite.specs.RawBodies.{EmitInput, IsRawBodyOf}
use Rattle.wasm_sections.specs.declared.changes.Changes.{Changes}
use Rattle.wasm_module.specs.declared.parsed.ParsedModule.{ParsedModule}
use Rattle.wasm_sections.specs.Additions.{AddsItem, AddsBody}
use Rattle.wasm_sections.specs.Declarations.{parameters_of_type}
use Rattle.wasm_sections.specs.Sections.{SectionAt}

-- ---- sections

-- A function of the type with this index and with this raw body is added: the body, and then the index to the function section.
pub record AddsRawFunction (all : List SectionAt) (old new : Changes) (type : ℕ) (raw : List ℕ) : Type 0 where
  pub between : Changes
  pub adds_body : AddsBody old between raw
  pub adds_type : AddsItem all between new 3 (short_number type)

-- ---- the function

-- how a function is written whose locals have these types by id
abbrev pub input_with : ParsedModule → (locals : List (ValType ℕ)) → FunctionParts → EmitInput
input_with source locals f = record { to = numbers_by source.module.types source.spaces.numbers []; types = locals; args = f.args }

-- A function whose locals have these types, and which has an argument for each parameter of its type, is added: its raw body, and
-- the index of its type.
pub record AddsFunction (source : ParsedModule) (all : List SectionAt) (old new : Changes) (f : FunctionParts) (locals : List (ValType ℕ)) : Type 0 where
  pub type : ℕ
  pub type_is : number_of source.spaces.numbers Types f.builder.type ≡ Ok type
  pub as_many : length f.args ≡ length (parameters_of_type source.module.types f.builder.type)
  pub raw : List ℕ
  pub pairs : List Pair
  pub is_raw_body : IsRawBodyOf (input_with source locals f) f.builder raw pairs
  pub adds : AddsRawFunction all old new type raw

-- ---- the module

-- One more function has an id, which is its index in the module that is written: that of the next function. All else stays.
pub record HasOneFunctionMore (old new : ParsedModule) (id : ℕ) : Type 0 where
  pub bytes : new.bytes.now ≡ old.bytes.now
  pub same_module : new.module ≡ old.module
  pub indices : new.spaces.indices ≡ old.spaces.indices
  pub func_types : new.func_types ≡ old.func_types
  pub imported : new.imported ≡ old.imported
  pub more_imports : new.spaces.more_imports ≡ old.spaces.more_imports
  pub more : new.spaces.more_functions ≡ old.spaces.more_functions + 1
  pub id_is : id ≡ length old.func_types.items + (old.spaces.more_imports + old.spaces.more_functions)
  pub number_is : number_of new.spaces.numbers Funcs id ≡ Ok id
  pub numbers : new.spaces.numbers ≡ with_next_number Funcs id old.spaces.numbers
