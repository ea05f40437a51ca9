-- A module that is written with changed functions (WebAssembly core specification 3.0, binary format, code section and modules), and
-- what a listener is told of it.
use Rattle.std.specs.Prelude.{◌≡◌, ◌+◌, ℕ, List, length, slice_get, Some}
use Rattle.wasm_body.specs.Pairs.{Pair}
use Rattle.wasm_sections.specs.declared.changes.Changes.{Changes}
use Rattle.wasm_sections.specs.declared.omissions.OmittedSections.{OmittedSections}
use Rattle.wasm_sections.specs.CodeSections.{BodyAt, IsCode, code_section}
use Rattle.wasm_sections.specs.Sections.{SectionAt}
use Rattle.wasm_module.specs.declared.parsed.ParsedModule.{ParsedModule}
use Rattle.wasm_module.specs.RewrittenCode.{FunctionChange, AreChanged}
use Rattle.wasm_module.specs.ToldBodies.{ToldBody}
use Rattle.wasm_module.specs.ToldModules.{module_told}
use Rattle.wasm_module.specs.WrittenModules.{IsWrittenModule, count_bodies}

-- The contents of the code section that is written: those of the source's code section, each function's body as the changes made
-- it, asked for once for each, in order, from the state `before` to the state `after`; each after its size.
pub record IsChangedCode {State : Type 0} (changes : FunctionChange State) (source : ParsedModule) (before : State) (s : SectionAt) (code : List ℕ) (after : State) : Type 0 where
  pub bodies : List BodyAt
  pub are_bodies : IsCode s.end s.contents bodies
  pub are_all : length bodies ≡ count_bodies source
  pub raws : List (List ℕ)
  pub pairs : List (List Pair)
  pub are_changed : AreChanged changes source before source.imported bodies raws pairs after
  pub code_is : code ≡ code_section raws

-- The body is one of these, which are those of the functions from the first one with a body on: it is written as these bytes with
-- these location pairs.
pub record IsOneOf (bodies : List BodyAt) (raws : List (List ℕ)) (all_pairs : List (List Pair)) (source : ParsedModule) (function : ℕ) (b : BodyAt) (raw : List ℕ) (pairs : List Pair) : Type 0 where
  pub at : ℕ
  pub function_is : function ≡ source.imported + at
  pub body_is : slice_get bodies at ≡ Some b
  pub raw_is : slice_get raws at ≡ Some raw
  pub pairs_are : slice_get all_pairs at ≡ Some pairs

-- All functions with a body are changed, asked for once for each, in order, from the state `before` to the state `after`; the module
-- that is written has the raw bodies of the changed ones; and these are told, each with the location pairs of its raw body.
pub record IsChangedModule {State : Type 0} (changes : FunctionChange State) (source : ParsedModule) (before : State) (sections : Changes) (left_out : OmittedSections) (new : List ℕ) (told : List ToldBody) (after : State) : Type 0 where
  pub bodies : List BodyAt
  pub are_all : length bodies ≡ count_bodies source
  pub raws : List (List ℕ)
  pub pairs : List (List Pair)
  pub are_changed : AreChanged changes source before source.imported bodies raws pairs after
  pub is_written : IsWrittenModule (IsOneOf bodies raws pairs) source sections left_out new
  pub told_are : told ≡ module_told (IsOneOf bodies raws pairs) source sections left_out new is_written
