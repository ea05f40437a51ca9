-- The context of a module (WebAssembly core specification 3.0, sections 3.1, contexts, and 3.5, modules): its types and index spaces, and the
-- functions that something other than a body or the start section names ("C.refs").
use Rattle.std.specs.Prelude.{ℕ, ◌+◌, ◌==◌, if◌then◌else◌, List, [], ◌∷◌, ◌++◌, length, filter, Bool, true, false, Result, Ok}
use Rattle.std.specs.List.{range_with_len}
use Rattle.wasm_types.specs.declared.val_type.RefType.{RefType}
use Rattle.wasm_numbers.specs.Results.{◌>>=◌}
use Rattle.wasm_typing.specs.Contexts.{OperandContext, DefinedType, AddressType, Address32, Address64, contains}
use Rattle.wasm_context.specs.Validation.{BodyContext}
use Rattle.wasm_sections.specs.declared.fault.ModuleError.{ModuleError}
use Rattle.wasm_sections.specs.declared.globals.GlobalType.{GlobalType}
use Rattle.wasm_sections.specs.declared.limits.Limits.{Limits}
use Rattle.wasm_sections.specs.declared.tables.TableType.{TableType}
use Rattle.wasm_sections.specs.Format.{table_part, limits_part, global_part, tag_part}
use Rattle.wasm_sections.specs.Parts.{Part, just, ◌>=>◌, repeated, whole_part, number}
use Rattle.wasm_sections.specs.References.{contents_references}
use Rattle.module_context.specs.declared.items.ImportType.{ImportType}
use Rattle.module_context.specs.declared.items.ImportType.TheVariants as import
use Rattle.module_context.specs.DeclaredItems.{import_type_part, reference_of, segment_type_part}
use Rattle.module_context.specs.SectionSteps.{through_module}
use Rattle.module_context.specs.TypeSections.{section_types}

-- What a module declares: the context of its operators, without locals and without the functions that are named; the number of imported
-- globals; and the functions that sections other than the start section name, in order, each as often as it is named.
pub record Declared : Type 0 where
  pub body : BodyContext
  pub imported_globals : ℕ
  pub named : List ℕ

abbrev pub nothing_declared : Declared
nothing_declared = record {
  body = record {
    operands = record {
      types = [];
      functions = [];
      referenced = [];
      tables = [];
      memories = [];
      globals = [];
      elements = [];
      data_segments = 0;
      locals = [];
    };
    tags = [];
  };
  imported_globals = 0;
  named = [];
}

abbrev pub with_operand_context : Declared → OperandContext → Declared
with_operand_context d c = record d { body = record d.body { operands = c } }

-- ---- one item more of an index space

abbrev pub address_type : (is_64 : Bool) → AddressType
address_type true = Address64
address_type false = Address32

abbrev pub and_types : Declared → List DefinedType → Declared
and_types d types = with_operand_context d (record d.body.operands { types = types })

abbrev pub and_function : Declared → (type : ℕ) → Declared
and_function d type = with_operand_context d (record d.body.operands { functions = d.body.operands.functions ++ type ∷ [] })

abbrev pub and_table : Declared → TableType → Declared
and_table d t =
    with_operand_context d (record d.body.operands {
      tables = d.body.operands.tables ++ record { address = address_type t.limits.is_64; element = reference_of t.element } ∷ [];
    })

abbrev pub and_memory : Declared → Limits → Declared
and_memory d l = with_operand_context d (record d.body.operands { memories = d.body.operands.memories ++ address_type l.is_64 ∷ [] })

abbrev pub and_global : Declared → GlobalType → Declared
and_global d g =
    with_operand_context d (record d.body.operands { globals = d.body.operands.globals ++ record { mutable = g.is_mutable; type = g.value } ∷ [] })

abbrev pub and_element : Declared → RefType ℕ → Declared
and_element d r = with_operand_context d (record d.body.operands { elements = d.body.operands.elements ++ r ∷ [] })

abbrev pub and_tag : Declared → (type : ℕ) → Declared
and_tag d type = record d { body = record d.body { tags = d.body.tags ++ type ∷ [] } }

abbrev pub and_data_count : Declared → ℕ → Declared
and_data_count d n = with_operand_context d (record d.body.operands { data_segments = n })

abbrev pub and_import : Declared → ImportType → Declared
and_import d (import.Function type) = and_function d type
and_import d (import.Table type) = and_table d type
and_import d (import.Memory limits) = and_memory d limits
and_import d (import.Global type) = record (and_global d type) { imported_globals = d.imported_globals + 1 }
and_import d (import.Tag type) = and_tag d type

-- ---- sections

-- an item of the section with this id
abbrev pub declared_item : (id : ℕ) → Declared → Part Declared
declared_item id d =
    if id == 2 then (import_type_part >=> λ type. just (and_import d type))
    else if id == 3 then (number >=> λ type. just (and_function d type))
    else if id == 4 then (table_part >=> λ table. just (and_table d table.0))
    else if id == 5 then (limits_part >=> λ limits. just (and_memory d limits))
    else if id == 6 then (global_part >=> λ global. just (and_global d global.0))
    else if id == 9 then (segment_type_part >=> λ type. just (and_element d type))
    else (tag_part >=> λ type. just (and_tag d type))

abbrev pub has_declared_items : (id : ℕ) → Bool
has_declared_items id = contains id (2 ∷ 3 ∷ 4 ∷ 5 ∷ 6 ∷ 9 ∷ 13 ∷ [])

abbrev pub declared_items : (id : ℕ) → Declared → Part Declared
declared_items id d = number >=> λ n. repeated (declared_item id) n d

-- the contents of the section with this id; sections of exports, code and data, custom sections and the start section declare nothing
abbrev pub declared_contents : (id : ℕ) → Declared → (end : ℕ) → (text : List ℕ) → Result Declared ModuleError
declared_contents id d end text =
    if id == 1 then (section_types end text >>= λ types. Ok (and_types d types))
    else if id == 12 then whole_part (number >=> λ n. just (and_data_count d n)) end text
    else if has_declared_items id then whole_part (declared_items id d) end text
    else Ok d

-- the functions that they name, unless it is the start section
abbrev pub named_contents : (id : ℕ) → Declared → (end : ℕ) → (text : List ℕ) → Result Declared ModuleError
named_contents id d end text =
    if id == 8 then Ok d else contents_references id end text >>= λ x. Ok (record d { named = d.named ++ x.0 })

abbrev pub declared_section : (id : ℕ) → Declared → (end : ℕ) → (text : List ℕ) → Result Declared ModuleError
declared_section id d end text = declared_contents id d end text >>= λ e. named_contents id e end text

-- ---- the whole module

-- The context of operators, and the number of imported globals.
pub record ModuleSetting : Type 0 where
  pub body : BodyContext
  pub imported_globals : ℕ

-- the functions of the module that are named
abbrev pub referenced_in : (named : List ℕ) → (count : ℕ) → List ℕ
referenced_in named count = filter (λ f. contains f named) (range_with_len 0 count)

abbrev pub setting_with_references : Declared → ModuleSetting
setting_with_references d = record {
  body = record d.body {
    operands = record d.body.operands { referenced = referenced_in d.named (length d.body.operands.functions) };
  };
  imported_globals = d.imported_globals;
}

-- the context of the module with these bytes, or the first fault of what it declares
abbrev pub module_setting : (bytes : List ℕ) → Result ModuleSetting ModuleError
module_setting bytes = through_module declared_section nothing_declared bytes >>= λ d. Ok (setting_with_references d)
