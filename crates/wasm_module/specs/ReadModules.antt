-- A module that was read: what its bytes spell (WebAssembly core specification 3.0, binary format, modules).
use Rattle.std.specs.Prelude.{◌≡◌, ◌⊎◌, ◌==◌, ◌<◌, ◌≤◌, ◌^◌, ℕ, List, length, [], Option, Some, None, option_map, if◌then◌else◌, Result, Ok, Err}
use Rattle.std.specs.List.{AllByRecursion}
use Rattle.walrus_ir.specs.Types.{ModuleType, Func, Entry, Other}
use Rattle.wasm_body.specs.declared.error.IndexError.{IndexError}
use Rattle.wasm_body.specs.declared.error.IndexError.TheVariants as index
use Rattle.wasm_sections.specs.declared.code.Bodies.{Bodies}
use Rattle.wasm_sections.specs.declared.fault.ModuleError.{ModuleError}
use Rattle.wasm_sections.specs.declared.fault.ModuleFault.{ModuleFault}
use Rattle.wasm_sections.specs.declared.fault.ModuleFault.TheVariants as fault
use Rattle.wasm_sections.specs.declared.input.Input.{Input}
use Rattle.wasm_sections.specs.declared.spaces.Spaces.{Spaces}
use Rattle.wasm_sections.specs.Components.{Components, with_one_table, with_one_memory, with_one_global, with_one_element, with_one_data}
use Rattle.wasm_sections.specs.Faults.{section_index_fault}
use Rattle.wasm_types.specs.declared.val_type.ValType.{ValType}
use Rattle.wasm_sections.specs.Format.{type_below, table_part, limits_part, global_part, element_segment_part, data_segment_part}
use Rattle.wasm_sections.specs.NextItems.{AreIndices}
use Rattle.wasm_sections.specs.Parts.{Part, passed, number}
use Rattle.wasm_sections.specs.Sections.{SectionAt, IsModule}
use Rattle.wasm_module.specs.declared.parsed.ParsedModule.{ParsedModule}

-- the place where a part ends, and its bytes
abbrev pub ended_bytes : Input → ℕ × List ℕ
ended_bytes i = (i.end, i.rest.now)

-- what a module that was read consists of
abbrev pub components_of : ParsedModule → Components
components_of p = record {
  types = p.«module».types;
  functions = p.func_types.items;
  imported = p.imported;
  tags = p.«module».tags;
  tables = p.spaces.counts.tables;
  memories = p.spaces.counts.memories;
  globals = p.spaces.counts.globals;
  elements = p.spaces.counts.elements;
  datas = p.spaces.counts.«data»;
  data_count = p.data_count;
  code = option_map ended_bytes p.code;
}

-- The file is a module with these sections, and with no others.
pub record HasOneSpelling (file : List ℕ) : Type 0 where
  pub sections : List SectionAt
  pub are : IsModule file sections
  pub only : (others : List SectionAt) → IsModule file others → others ≡ sections

-- The bodies of the code section are left; none if there is no code section.
abbrev pub HasBodiesOf : (code : Option (ℕ × List ℕ)) → Bodies → Type 0
HasBodiesOf None s = s.left.rest.now ≡ []
HasBodiesOf (Some code) s = (n : ℕ) (rest : List ℕ) → number code.0 code.1 ≡ Ok (n, rest) → (s.left.rest.now ≡ rest) × (s.left.end ≡ code.0)

-- ---- while a module is read

-- a type of a type section
abbrev pub IsOfSection : ModuleType → Type 0
IsOfSection (Func parameters results) = Unit {0}
IsOfSection (Entry results) = ⊥
IsOfSection Other = Unit {0}

-- Each id is the index of its item, and its number; no type is one of entries; and the count of tags is their number.
pub record IsReadSoFar (m : Components) (s : Spaces) : Type 0 where
  pub indices : AreIndices m s
  pub types : AllByRecursion IsOfSection m.types
  pub tags : s.counts.tags ≡ length m.tags

-- From what was read so far, this step leads to what is read then, unless memory ran out.
abbrev pub StepsTo :
    {A : Type 0} → (view : Components → A) → (m : Components) → (s : Spaces) → Result (Unit {0}) ModuleError → (step : Result A ModuleError) →
    (n : Components) → (t : Spaces) → Type 0
StepsTo view m s (Ok u) step n t = IsReadSoFar m s → (step ≡ Ok (view n)) × IsReadSoFar n t
StepsTo view m s (Err e) step n t = IsReadSoFar m s → (e.fault ≡ fault.Memory) ⊎ (step ≡ Err e)

-- The same for one more item of an index space.
abbrev pub AddsTo :
    (m : Components) → (s : Spaces) → Result (Unit {0}) IndexError → (step : Result Components ModuleFault) → (n : Components) → (t : Spaces) → Type 0
AddsTo m s (Ok u) step n t = IsReadSoFar m s → (step ≡ Ok n) × IsReadSoFar n t
AddsTo m s (Err e) step n t = IsReadSoFar m s → (e ≡ index.Memory) ⊎ (step ≡ Err (section_index_fault e))

-- this value, unless there is an error
abbrev pub with_value : {A : Type 0} → Result (Unit {0}) ModuleError → A → Result A ModuleError
with_value (Ok u) x = Ok x
with_value (Err e) x = Err e

-- a fault at this place of the file
abbrev pub fault_at : (place : ℕ) → ModuleFault → ModuleError
fault_at place f = record { fault = f; at = place }

abbrev pub index_error_at : (place : ℕ) → IndexError → ModuleError
index_error_at place e = fault_at place (section_index_fault e)

-- an item of the section with this id that is counted only, and what it adds
abbrev pub counted_part : (id : ℕ) → Part (Unit {0})
counted_part id =
    if id == 4 then passed table_part
    else if id == 5 then passed limits_part
    else if id == 6 then passed global_part
    else if id == 9 then passed element_segment_part
    else passed data_segment_part

abbrev pub with_counted : (id : ℕ) → Components → Result Components ModuleFault
with_counted id m =
    if id == 4 then with_one_table m
    else if id == 5 then with_one_memory m
    else if id == 6 then with_one_global m
    else if id == 9 then with_one_element m
    else with_one_data m

-- ---- types

-- A value type that names a type below the limit, if it names one.
abbrev pub AreBelow : (limit : ℕ) → List (ValType ℕ) → Type 0
AreBelow limit types = AllByRecursion (λ t. type_below limit t ≡ Ok t) types

abbrev pub HasTypesBelow : (limit : ℕ) → ModuleType → Type 0
HasTypesBelow limit (Func parameters results) = AreBelow limit parameters × AreBelow limit results
HasTypesBelow limit (Entry results) = ⊥
HasTypesBelow limit Other = Unit {0}

-- only the types, or only the index spaces, of a module may differ
pub record HasOtherTypes (old new : ParsedModule) : Type 0 where
  pub components : components_of new ≡ record (components_of old) { types = new.«module».types }
  pub spaces : new.spaces ≡ old.spaces

pub record HasOtherSpaces (old new : ParsedModule) : Type 0 where
  pub components : components_of new ≡ components_of old
  pub tags : new.spaces.counts.tags ≡ old.spaces.counts.tags
  pub types : new.«module».types ≡ old.«module».types

-- So many types have an index, or there are too many, unless memory ran out.
abbrev pub IndexesTypes : (m : Components) → (count : ℕ) → Result (Unit {0}) ModuleError → (t : Spaces) → Type 0
IndexesTypes m count (Ok u) t = (count ≤ 2 ^ 32) × ((types : List ModuleType) → length types ≡ count → AreIndices (record m { types = types }) t)
IndexesTypes m count (Err e) t = (e.fault ≡ fault.Memory) ⊎ ((2 ^ 32 < count) × (e ≡ fault_at 0 fault.TooGreat))
