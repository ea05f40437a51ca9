-- The rules of a module's parts (WebAssembly core specification 3.0, sections 3.2, types, and 3.5, modules), as functions of the bytes: success, or
-- the first fault and its place.
use Rattle.std.specs.Prelude.{ℕ, ◌+◌, ◌-◌, ◌^◌, ◌==◌, ◌%◌, nat_lt, nat_le, not, ◌&&◌, if◌then◌else◌, Bool, true, false, List, [], ◌∷◌, ◌++◌, length, replicate, bytes_eq, Option, Some, None, slice_get, Result, Ok}
use Rattle.std.specs.List.{list_any}
use Rattle.wasm_types.specs.declared.val_type.RefType.{RefType}
use Rattle.wasm_types.specs.declared.val_type.ValType.{ValType}
use Rattle.wasm_types.specs.declared.val_type.ValType.TheVariants.{Ref}
use Rattle.walrus_ir.specs.Types.{Signature}
use Rattle.wasm_numbers.specs.Results.{◌>>=◌, with_fault, some_or}
use Rattle.wasm_operators.specs.declared.types.Space.TheVariants as spaces
use Rattle.wasm_typing.specs.Contexts.{OperandContext, AddressType, address, function_type_in, has_default}
use Rattle.wasm_typing.specs.Contexts as standard
use Rattle.wasm_typing.specs.Matching.{is_valid_value, matches_reference}
use Rattle.wasm_sections.specs.declared.fault.ModuleError.{ModuleError}
use Rattle.wasm_sections.specs.declared.fault.ModuleFault.{ModuleFault}
use Rattle.wasm_sections.specs.declared.fault.ModuleFault.TheVariants as fault
use Rattle.wasm_sections.specs.declared.globals.GlobalType.{GlobalType}
use Rattle.wasm_sections.specs.declared.limits.Limits.{Limits}
use Rattle.wasm_sections.specs.declared.tables.TableType.{TableType}
use Rattle.wasm_sections.specs.Components.{body_part}
use Rattle.wasm_sections.specs.Format.{value_part, table_type_part, after_table_mark, limits_part, global_type_part, tag_part, export_part, flags_up_to}
use Rattle.wasm_sections.specs.Parts.{Part, fault_here, just, ◌>=>◌, checked, repeated, whole_part, number, bytes_part}
use Rattle.module_context.specs.InvalidFaults.{invalid_limits, invalid_type, no_initial_value, segment_type, start_type, tag_results}
use Rattle.module_context.specs.declared.items.ImportType.{ImportType}
use Rattle.module_context.specs.declared.items.ImportType.TheVariants as import
use Rattle.module_context.specs.DeclaredItems.{import_type_part, element_reference_part}
use Rattle.module_context.specs.ModuleContexts.{ModuleSetting, module_setting}
use Rattle.module_context.specs.SectionSteps.{SectionStep, through_module}
use Rattle.wasm_validation.specs.BodyValidation.{BodySetting}
use Rattle.module_validator.specs.CodeValidity.{code_validity}
use Rattle.module_validator.specs.ConstantRules.{only_if, constant_rule}

abbrev pub operands_of_module : ModuleSetting → OperandContext
operands_of_module s = s.body.operands

-- a value, if a rule allows it
abbrev pub kept_if : {A : Type 0} → (A → Result (Unit {0}) ModuleFault) → A → Result A ModuleFault
kept_if rule x = rule x >>= λ u. Ok x

-- ---- limits ("limits", "memtype", "tabletype")

-- a minimum and a maximum that are at most so great
abbrev pub is_maximum_within : (most min : ℕ) → Option ℕ → Bool
is_maximum_within most min None = true
is_maximum_within most min (Some max) = nat_le min max && nat_le max most

abbrev pub are_within : (most : ℕ) → Limits → Bool
are_within most l = nat_le l.min most && is_maximum_within most l.min l.max

-- pages of a memory
abbrev pub most_pages : (is_64 : Bool) → ℕ
most_pages true = 2 ^ 48
most_pages false = 2 ^ 16

-- elements of a table
abbrev pub most_elements : (is_64 : Bool) → ℕ
most_elements true = 2 ^ 64 - 1
most_elements false = 2 ^ 32 - 1

abbrev pub memory_rule : Limits → Result (Unit {0}) ModuleFault
memory_rule l = only_if (are_within (most_pages l.is_64) l) invalid_limits

-- ---- types of tables, globals and tags ("tabletype", "globaltype", "tagtype")

abbrev pub value_rule : OperandContext → ValType ℕ → Result (Unit {0}) ModuleFault
value_rule c type = only_if (is_valid_value c type) invalid_type

abbrev pub table_type_rule : OperandContext → TableType → Result (Unit {0}) ModuleFault
table_type_rule c t =
    only_if (not t.limits.is_shared && are_within (most_elements t.limits.is_64) t.limits) invalid_limits >>= λ u. value_rule c t.element

abbrev pub global_type_rule : OperandContext → GlobalType → Result (Unit {0}) ModuleFault
global_type_rule c g = value_rule c g.value

-- the types of a function type
abbrev pub signature_rule : OperandContext → ℕ → Result Signature ModuleFault
signature_rule c type = with_fault (λ e. invalid_type) (function_type_in c type)

abbrev pub is_empty_list : List (ValType ℕ) → Bool
is_empty_list [] = true
is_empty_list _ = false

abbrev pub tag_rule : OperandContext → (type : ℕ) → Result (Unit {0}) ModuleFault
tag_rule c type = signature_rule c type >>= λ s. only_if (is_empty_list s.results) tag_results

-- ---- imports ("externtype")

abbrev pub import_rule : OperandContext → ImportType → Result (Unit {0}) ModuleFault
import_rule c (import.Function type) = signature_rule c type >>= λ s. Ok tt
import_rule c (import.Table type) = table_type_rule c type
import_rule c (import.Memory limits) = memory_rule limits
import_rule c (import.Global type) = global_type_rule c type
import_rule c (import.Tag type) = tag_rule c type

-- ---- tables and globals

-- Without an initial value the elements need a default one.
abbrev pub default_rule : OperandContext → TableType → Result (Unit {0}) ModuleFault
default_rule c t = table_type_rule c t >>= λ u. only_if (has_default t.element) no_initial_value

-- An initial value may get imported globals.
abbrev pub initialized_table_rule : ModuleSetting → Part (Unit {0})
initialized_table_rule s =
    checked table_type_part (kept_if (table_type_rule (operands_of_module s))) >=> λ t. constant_rule s s.imported_globals t.element

abbrev pub table_rule_after : ModuleSetting → Option (List ℕ) → Part (Unit {0})
table_rule_after s None end text = checked table_type_part (default_rule (operands_of_module s)) end text
table_rule_after s (Some marked) end text = initialized_table_rule s end marked

abbrev pub table_rule : ModuleSetting → Part (Unit {0})
table_rule s end text = table_rule_after s (after_table_mark text) end text

-- A global that comes after so many may get these.
abbrev pub global_rule : ModuleSetting → (before : ℕ) → Part ℕ
global_rule s before =
    checked global_type_part (kept_if (global_type_rule (operands_of_module s))) >=> λ g. constant_rule s before g.value >=> λ u. just (before + 1)

-- ---- exports and the start function

abbrev pub is_name_among : List (List ℕ) → List ℕ → Bool
is_name_among names name = list_any (λ other. bytes_eq name other) names

-- an export after those with these names: no name is there twice
abbrev pub export_rule : List (List ℕ) → Part (List (List ℕ))
export_rule names =
    checked export_part (λ x. only_if (not (is_name_among names x.0)) fault.ExportTaken >>= λ u. Ok (x.0 ∷ names))

abbrev pub function_type_at_index : OperandContext → (function : ℕ) → Result Signature ModuleFault
function_type_at_index c n = some_or (slice_get c.functions n) (fault.IndexOutOfRange spaces.Funcs n) >>= signature_rule c

abbrev pub start_rule : OperandContext → (function : ℕ) → Result (Unit {0}) ModuleFault
start_rule c n =
    function_type_at_index c n >>= λ s. only_if (is_empty_list s.parameters && is_empty_list s.results) start_type

-- ---- element and data segments

-- All globals may be got.
abbrev pub segment_constant_rule : ModuleSetting → ValType ℕ → Part (Unit {0})
segment_constant_rule s type = constant_rule s (length (operands_of_module s).globals) type

abbrev pub table_there : OperandContext → (table : ℕ) → Result standard.TableType ModuleFault
table_there c n = some_or (slice_get c.tables n) (fault.IndexOutOfRange spaces.Tables n)

abbrev pub memory_there : OperandContext → (memory : ℕ) → Result AddressType ModuleFault
memory_there c n = some_or (slice_get c.memories n) (fault.IndexOutOfRange spaces.Memories n)

-- the offset of an active segment of this table, and the type of the table
abbrev pub active_offset_rule : ModuleSetting → (table : ℕ) → Part (Option standard.TableType)
active_offset_rule s table =
    checked (just table) (table_there (operands_of_module s)) >=> λ t. segment_constant_rule s (address t.address) >=> λ u. just (Some t)

abbrev pub offset_rule : ModuleSetting → (flags table : ℕ) → Part (Option standard.TableType)
offset_rule s flags table = if (flags % 2) == 0 then active_offset_rule s table else just None

abbrev pub table_takes : OperandContext → Option standard.TableType → RefType ℕ → Result (RefType ℕ) ModuleFault
table_takes c None r = Ok r
table_takes c (Some t) r = only_if (matches_reference c r t.element) segment_type >>= λ u. Ok r

abbrev pub segment_type_rule : OperandContext → Option standard.TableType → RefType ℕ → Result (RefType ℕ) ModuleFault
segment_type_rule c table r = value_rule c (Ref r) >>= λ u. table_takes c table r

abbrev pub element_rule : ModuleSetting → (is_expression : Bool) → RefType ℕ → Part (Unit {0})
element_rule s true r = segment_constant_rule s (Ref r)
element_rule s false r =
    checked number (λ n. some_or (slice_get (operands_of_module s).functions n) (fault.IndexOutOfRange spaces.Funcs n) >>= λ type. Ok tt)

abbrev pub index_if : (is_there : Bool) → Part ℕ
index_if true = number
index_if false = just 0

abbrev pub element_segment_rule : ModuleSetting → Part (Unit {0})
element_segment_rule s =
    checked number (flags_up_to 7) >=> λ flags. index_if ((flags % 4) == 2) >=> λ table. offset_rule s flags table >=> λ t.
    checked (element_reference_part flags) (segment_type_rule (operands_of_module s) t) >=> λ r.
    number >=> λ n. repeated (λ u. element_rule s (nat_le 4 flags) r) n tt

abbrev pub data_offset_rule : ModuleSetting → (flags memory : ℕ) → Part (Unit {0})
data_offset_rule s flags memory =
    if flags == 1 then just tt
    else (checked (just memory) (memory_there (operands_of_module s)) >=> λ a. segment_constant_rule s (address a))

abbrev pub data_segment_rule : ModuleSetting → Part (Unit {0})
data_segment_rule s =
    checked number (flags_up_to 2) >=> λ flags. index_if (flags == 2) >=> λ memory. data_offset_rule s flags memory >=> λ u.
    bytes_part >=> λ bytes. just tt

-- ---- bodies

-- Locals of this type, so many, after those of parameters and those that were declared; there are fewer than 2^32.
abbrev pub more_locals : OperandContext → (parameters : ℕ) → List (ValType ℕ) → (count : ℕ) → ValType ℕ → Result (List (ValType ℕ)) ModuleFault
more_locals c parameters declared count type =
    value_rule c type >>= λ u. only_if (nat_lt (parameters + length declared + count) (2 ^ 32)) fault.TooManyLocals >>= λ u.
    Ok (declared ++ replicate count type)

abbrev pub run_of_locals : OperandContext → (parameters : ℕ) → List (ValType ℕ) → Part (List (ValType ℕ))
run_of_locals c parameters declared = number >=> λ count. checked value_part (more_locals c parameters declared count)

abbrev pub locals_part : OperandContext → (parameters : ℕ) → Part (List (ValType ℕ))
locals_part c parameters = number >=> λ n. repeated (run_of_locals c parameters) n []

-- a function of this type that declares these locals
abbrev pub body_setting_of : ModuleSetting → Signature → (declared : List (ValType ℕ)) → BodySetting
body_setting_of s t declared = record {
  context = record s.body { operands = record s.body.operands { locals = t.parameters ++ declared } };
  parameters = length t.parameters;
  results = t.results;
}

-- the bytes of the body of the function with this index, which end at this place of the file
abbrev pub body_validity : ModuleSetting → (function : ℕ) → (end : ℕ) → (text : List ℕ) → Result (Unit {0}) ModuleError
body_validity s n end text =
    with_fault (fault_here end text) (function_type_at_index (operands_of_module s) n) >>= λ t.
    locals_part (operands_of_module s) (length t.parameters) end text >>= λ x.
    code_validity (body_setting_of s t x.0) (end - length x.1) x.1

abbrev pub body_rule : ModuleSetting → (function : ℕ) → Part ℕ
body_rule s n end text = body_part end text >>= λ x. body_validity s n (end - length x.1) x.0 >>= λ u. Ok (n + 1, x.1)

-- The bodies are those of the last functions.
abbrev pub bodies_rule : ModuleSetting → Part ℕ
bodies_rule s = number >=> λ n. repeated (body_rule s) n (length (operands_of_module s).functions - n)

-- ---- sections

-- a vector of items that are checked one by one
abbrev pub each_rule : Part (Unit {0}) → Part (Unit {0})
each_rule rule = number >=> λ n. repeated (λ u. rule) n tt

abbrev pub globals_rule : ModuleSetting → Part ℕ
globals_rule s = number >=> λ n. repeated (global_rule s) n s.imported_globals

abbrev pub exports_rule : Part (List (List ℕ))
exports_rule = number >=> λ n. repeated export_rule n []

abbrev pub section_rule : ModuleSetting → SectionStep (Unit {0})
section_rule s id u end text =
    let c = operands_of_module s in
    if id == 2 then whole_part (each_rule (checked import_type_part (import_rule c))) end text
    else if id == 4 then whole_part (each_rule (table_rule s)) end text
    else if id == 5 then whole_part (each_rule (checked limits_part memory_rule)) end text
    else if id == 6 then (whole_part (globals_rule s) end text >>= λ n. Ok tt)
    else if id == 7 then (whole_part exports_rule end text >>= λ names. Ok tt)
    else if id == 8 then whole_part (checked number (start_rule c)) end text
    else if id == 9 then whole_part (each_rule (element_segment_rule s)) end text
    else if id == 10 then (whole_part (bodies_rule s) end text >>= λ n. Ok tt)
    else if id == 11 then whole_part (each_rule (data_segment_rule s)) end text
    else if id == 13 then whole_part (each_rule (checked tag_part (tag_rule c))) end text
    else Ok tt

-- ---- the whole module

-- The bytes of a module that was read are valid; or the first fault: of what it declares, and then of the rules, each in the order of the bytes.
abbrev pub module_validity : (bytes : List ℕ) → Result (Unit {0}) ModuleError
module_validity bytes = module_setting bytes >>= λ s. through_module (section_rule s) tt bytes
