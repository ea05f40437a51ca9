-- What the results of the code mean.
use Rattle.std.specs.Prelude.{◌≡◌, ◌⊎◌, ◌==◌, ◌-◌, ◌%◌, ◌&&◌, nat_le, ℕ, if◌then◌else◌, List, length, Bool, is_some, slice_get, Option, Result, Ok, Err}
use denote.Ref.{Bor}
use Rattle.std.specs.BTreeMap.{BTreeMap, get_by}
use Rattle.std.specs.Cmp.Lexicographic.{slice_cmp}
use Rattle.std.specs.Ordering.{nat_cmp}
use Rattle.wasm_types.specs.declared.val_type.RefType.{RefType}
use Rattle.wasm_numbers.specs.Results.{◌>>=◌, with_fault, some_or}
use Rattle.wasm_operators.specs.declared.types.Space.TheVariants as spaces
use Rattle.wasm_operators.specs.Spelling.{read_operation}
use Rattle.wasm_typing.specs.Contexts as standard
use Rattle.wasm_typing.specs.Contexts.{OperandContext}
use Rattle.wasm_sections.specs.declared.fault.ModuleError.{ModuleError}
use Rattle.wasm_sections.specs.declared.fault.ModuleFault.{ModuleFault}
use Rattle.wasm_sections.specs.declared.fault.ModuleFault.TheVariants as fault
use Rattle.wasm_sections.specs.Format.{limits_part, tag_part}
use Rattle.wasm_sections.specs.Parts.{Part, fault_here, ◌>=>◌, checked, repeated, number, whole_part}
use Rattle.module_context.specs.DeclaredItems.{import_type_part, element_reference_part}
use Rattle.module_context.specs.InvalidFaults.{start_type}
use Rattle.module_context.specs.ModuleContexts.{ModuleSetting}
use Rattle.module_validator.specs.CodeValidity.{code_validity}
use Rattle.module_validator.specs.ConstantRules.{only_if, is_constant}
use Rattle.module_validator.specs.ModuleRules.{operands_of_module, memory_rule, signature_rule, is_empty_list, tag_rule, import_rule, table_rule, is_name_among, offset_rule, segment_type_rule, element_rule, index_if, element_segment_rule, data_segment_rule, locals_part, body_setting_of, globals_rule, exports_rule, bodies_rule}

-- ---- items that are checked one by one

-- an item of the section with this id
abbrev pub item_rule : (id : ℕ) → ModuleSetting → Part (Unit {0})
item_rule id s =
    if id == 2 then checked import_type_part (import_rule (operands_of_module s))
    else if id == 4 then table_rule s
    else if id == 5 then checked limits_part memory_rule
    else if id == 9 then element_segment_rule s
    else if id == 13 then checked tag_part (tag_rule (operands_of_module s))
    else data_segment_rule s

-- ---- names of exports

abbrev pub NameMap : Type 0
NameMap = BTreeMap (Bor (List ℕ)) (Unit {0})

abbrev pub has_export_name : NameMap → List ℕ → Bool
has_export_name m name = is_some (get_by (λ k. slice_cmp nat_cmp name k.now) m)

-- The map has these names, and no others.
abbrev pub HasExportNames : NameMap → List (List ℕ) → Type 0
HasExportNames m names = (name : List ℕ) → has_export_name m name ≡ is_name_among names name

-- The part gives names that the map has, and these bytes follow it; or this is its fault, unless memory ran out.
abbrev pub GivesNames : (new : NameMap) → (following : List ℕ) → Result (Unit {0}) ModuleError → (part : Result (List (List ℕ) × List ℕ) ModuleError) → Type 0
GivesNames new following (Ok u) part = (names : List (List ℕ)) × (part ≡ Ok (names, following)) × HasExportNames new names
GivesNames new following (Err e) part = (e.fault ≡ fault.Memory) ⊎ (part ≡ Err e)

-- ---- constant expressions

-- the bytes after the operator at the front, if it is constant; or its fault
abbrev pub after_constant : OperandContext → (globals : ℕ) → (bytes : List ℕ) → Result (List ℕ) ModuleFault
after_constant c globals bytes =
    with_fault fault.Read (read_operation bytes) >>= λ x. only_if (is_constant c globals x.0) fault.BadConstant >>= λ u. Ok x.1

-- ---- parts of segments and of bodies

abbrev pub function_rule : OperandContext → (function : ℕ) → Result (Unit {0}) ModuleFault
function_rule c n = some_or (slice_get c.functions n) (fault.IndexOutOfRange spaces.Funcs n) >>= λ type. Ok tt

abbrev pub elements_rule : ModuleSetting → (are_expressions : Bool) → RefType ℕ → Part (Unit {0})
elements_rule s are_expressions r = number >=> λ n. repeated (λ u. element_rule s are_expressions r) n tt

abbrev pub after_offset_rule : ModuleSetting → (flags : ℕ) → Option standard.TableType → Part (Unit {0})
after_offset_rule s flags t =
    checked (element_reference_part flags) (segment_type_rule (operands_of_module s) t) >=> λ r. elements_rule s (nat_le 4 flags) r

abbrev pub after_flags_rule : ModuleSetting → (flags : ℕ) → Part (Unit {0})
after_flags_rule s flags =
    index_if ((flags % 4) == 2) >=> λ table. offset_rule s flags table >=> λ t. after_offset_rule s flags t

-- the bytes of the body of a function of the type with this index
abbrev pub typed_body_validity : ModuleSetting → (type : ℕ) → (end : ℕ) → (text : List ℕ) → Result (Unit {0}) ModuleError
typed_body_validity s type end text =
    with_fault (fault_here end text) (signature_rule (operands_of_module s) type) >>= λ t.
    locals_part (operands_of_module s) (length t.parameters) end text >>= λ x.
    code_validity (body_setting_of s t x.0) (end - length x.1) x.1

-- ---- whole sections

-- a function of the type with this index that may be the start function
abbrev pub start_type_rule : OperandContext → (type : ℕ) → Result (Unit {0}) ModuleFault
start_type_rule c type = signature_rule c type >>= λ s. only_if (is_empty_list s.parameters && is_empty_list s.results) start_type

abbrev pub globals_contents : ModuleSetting → (end : ℕ) → (text : List ℕ) → Result (Unit {0}) ModuleError
globals_contents s end text = whole_part (globals_rule s) end text >>= λ n. Ok tt

abbrev pub exports_contents : (end : ℕ) → (text : List ℕ) → Result (Unit {0}) ModuleError
exports_contents end text = whole_part exports_rule end text >>= λ names. Ok tt

abbrev pub bodies_contents : ModuleSetting → (end : ℕ) → (text : List ℕ) → Result (Unit {0}) ModuleError
bodies_contents s end text = whole_part (bodies_rule s) end text >>= λ n. Ok tt
