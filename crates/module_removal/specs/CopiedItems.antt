-- What is copied of the items of sections (WebAssembly core specification 3.0, binary format, modules and types).
use Rattle.std.specs.Prelude.{ℕ, ◌%◌, ◌==◌, nat_le, not, Bool, true, false, if◌then◌else◌, List, [], ◌∷◌, Option, Some, None, Result, Ok}
use Rattle.wasm_numbers.specs.Reading.{starts}
use Rattle.wasm_numbers.specs.Results.{◌>>=◌, with_fault, some_or}
use Rattle.wasm_operators.specs.declared.types.Space.{Space}
use Rattle.wasm_operators.specs.declared.types.Space.TheVariants.{Types, Funcs, Tables, Memories, Globals, Tags, Elements, Data}
use Rattle.wasm_operators.specs.Types.{row_at}
use Rattle.wasm_sections.specs.declared.fault.ModuleFault.{ModuleFault}
use Rattle.wasm_sections.specs.declared.fault.ModuleFault.TheVariants as fault
use Rattle.wasm_sections.specs.Format.{after_table_mark, export_rows, is_packed_byte, has_supertypes, composite_byte}
use Rattle.wasm_sections.specs.Parts.{checked, one_byte, fault_here}
use Rattle.module_removal.specs.declared.vectors.VectorOf.{VectorOf}
use Rattle.module_removal.specs.declared.vectors.VectorOf.TheVariants as vectors
use Rattle.module_removal.specs.CopiedParts.{Copied, writes, CopiedPart, puts, nothing, ◌>+>◌, with_other_value, copied_byte, copied_number, copied_bytes, copied_vector, NewIndices, item_at, named_item, copied_index, copied_value, copied_limits}
use Rattle.module_removal.specs.CopiedConstants.{copied_constant}

-- a byte whose value isn't asked
abbrev pub passed_byte : CopiedPart (Unit {0})
passed_byte = with_other_value (λ b. tt) copied_byte

-- ---- tables, globals and tags

abbrev pub copied_table_type : NewIndices → CopiedPart (Unit {0})
copied_table_type w = copied_value w >+> λ u. copied_limits

-- two bytes that say that a constant expression of the elements follows the type, the type, and the expression
abbrev pub copied_initialized : NewIndices → CopiedPart (Unit {0})
copied_initialized w = puts (0x40 ∷ 0x00 ∷ []) >+> λ u. copied_table_type w >+> λ u. copied_constant w

abbrev pub copied_table_after : NewIndices → Option (List ℕ) → CopiedPart (Unit {0})
copied_table_after w None end text = copied_table_type w end text
copied_table_after w (Some marked) end text = copied_initialized w end marked

abbrev pub copied_table : NewIndices → CopiedPart (Unit {0})
copied_table w end text = copied_table_after w (after_table_mark text) end text

-- its type and its mutability
abbrev pub copied_global_type : NewIndices → CopiedPart (Unit {0})
copied_global_type w = copied_value w >+> λ u. passed_byte

abbrev pub copied_global : NewIndices → CopiedPart (Unit {0})
copied_global w = copied_global_type w >+> λ u. copied_constant w

-- its attribute and its type
abbrev pub copied_tag : NewIndices → CopiedPart (Unit {0})
copied_tag w = copied_byte >+> λ attribute. copied_index w Types

-- ---- imports and exports

-- the kind of what is imported or exported, which says the index space; otherwise this fault
abbrev pub space_of_kind : ModuleFault → (kind : ℕ) → Result (Space × Copied) ModuleFault
space_of_kind f kind = some_or (row_at export_rows kind) f >>= λ space. Ok (space, writes (kind ∷ []))

abbrev pub copied_kind : ModuleFault → CopiedPart Space
copied_kind f = checked one_byte (space_of_kind f)

-- what is imported, by its space
abbrev pub copied_imported : NewIndices → Space → CopiedPart (Unit {0})
copied_imported w Funcs = copied_index w Types
copied_imported w Tables = copied_table_type w
copied_imported w Memories = copied_limits
copied_imported w Globals = copied_global_type w
copied_imported w _ = copied_tag w

-- the names of the module and of the item, and what it is; the value is its space
abbrev pub copied_import : NewIndices → CopiedPart Space
copied_import w =
    copied_bytes >+> λ u. copied_bytes >+> λ u. copied_kind fault.BadImportKind >+> λ space. with_other_value (λ u. space) (copied_imported w space)

abbrev pub copied_export : NewIndices → CopiedPart (Unit {0})
copied_export w = copied_bytes >+> λ u. copied_kind fault.BadExportKind >+> copied_index w

-- ---- element and data segments

-- the first item of a space, for which nothing is written
abbrev pub copied_first : NewIndices → Space → CopiedPart (Unit {0})
copied_first w space end text =
    with_fault (fault_here end text) (named_item w (item_at space 0)) >>= λ x. Ok ((tt, x.1), text)

-- the table or memory of an active segment: the one with the index, or the first one
abbrev pub copied_target : NewIndices → Space → (has_index : Bool) → CopiedPart (Unit {0})
copied_target w space true = copied_index w space
copied_target w space false = copied_first w space

-- its target and its offset
abbrev pub copied_active : NewIndices → Space → (has_index : Bool) → CopiedPart (Unit {0})
copied_active w space has_index = copied_target w space has_index >+> λ u. copied_constant w

abbrev pub copied_place : NewIndices → Space → (is_active has_index : Bool) → CopiedPart (Unit {0})
copied_place w space true has_index = copied_active w space has_index
copied_place w space false has_index = nothing

-- the kind of the elements, or from flag 4 on their type, where bit 0 or 1 of the flags is set
abbrev pub copied_element_kind : NewIndices → (is_type : Bool) → CopiedPart (Unit {0})
copied_element_kind w true = copied_value w
copied_element_kind w false = passed_byte

abbrev pub copied_element_type : NewIndices → (flags : ℕ) → CopiedPart (Unit {0})
copied_element_type w flags = if (flags % 4) == 0 then nothing else copied_element_kind w (nat_le 4 flags)

-- the elements: expressions, from flag 4 on, or indices of functions
abbrev pub copied_elements : NewIndices → (are_expressions : Bool) → CopiedPart (Unit {0})
copied_elements w true = copied_vector (copied_constant w)
copied_elements w false = copied_vector (copied_index w Funcs)

abbrev pub copied_typed_elements : NewIndices → (flags : ℕ) → CopiedPart (Unit {0})
copied_typed_elements w flags = copied_element_type w flags >+> λ u. copied_elements w (nat_le 4 flags)

-- a segment is active where bit 0 is clear, and has the index of its table where bit 1 is set
abbrev pub copied_element : NewIndices → CopiedPart (Unit {0})
copied_element w =
    copied_number >+> λ flags. copied_place w Tables ((flags % 2) == 0) ((flags % 4) == 2) >+> λ u. copied_typed_elements w flags

-- flags 1 are those of a passive segment, and 2 those of one with the index of its memory
abbrev pub copied_data : NewIndices → CopiedPart (Unit {0})
copied_data w =
    copied_number >+> λ flags. copied_place w Memories (not (flags == 1)) (flags == 2) >+> λ u. copied_bytes

-- ---- types

-- the type of a field: one of 8 or 16 bits, or a value type; and its mutability
abbrev pub copied_storage : NewIndices → CopiedPart (Unit {0})
copied_storage w end text = if starts is_packed_byte text then passed_byte end text else copied_value w end text

abbrev pub copied_field : NewIndices → CopiedPart (Unit {0})
copied_field w = copied_storage w >+> λ u. passed_byte

-- the vectors of the types of parameters and of results
abbrev pub copied_function_type : NewIndices → CopiedPart (Unit {0})
copied_function_type w = copied_vector (copied_value w) >+> λ u. copied_vector (copied_value w)

-- the first byte of a composite type
abbrev pub copied_composite_kind : CopiedPart ℕ
copied_composite_kind = checked one_byte (λ b. composite_byte b >>= λ b. Ok (b, writes (b ∷ [])))

-- what follows it: a function type, a struct type, or an array type
abbrev pub copied_aggregate : NewIndices → (is_struct : Bool) → CopiedPart (Unit {0})
copied_aggregate w true = copied_vector (copied_field w)
copied_aggregate w false = copied_field w

abbrev pub copied_composite_of : NewIndices → (is_function is_struct : Bool) → CopiedPart (Unit {0})
copied_composite_of w true is_struct = copied_function_type w
copied_composite_of w false is_struct = copied_aggregate w is_struct

abbrev pub copied_composite_after : NewIndices → (b : ℕ) → CopiedPart (Unit {0})
copied_composite_after w b = copied_composite_of w (b == 0x60) (b == 0x5f)

abbrev pub copied_composite : NewIndices → CopiedPart (Unit {0})
copied_composite w = copied_composite_kind >+> copied_composite_after w

-- the bytes 0x4f (final) and 0x50 come before a list of supertypes
abbrev pub copied_supertypes : NewIndices → CopiedPart (Unit {0})
copied_supertypes w = copied_byte >+> λ b. copied_vector (copied_index w Types)

abbrev pub copied_derived : NewIndices → CopiedPart (Unit {0})
copied_derived w = copied_supertypes w >+> λ u. copied_composite w

abbrev pub copied_subtype : NewIndices → CopiedPart (Unit {0})
copied_subtype w end text = if starts has_supertypes text then copied_derived w end text else copied_composite w end text

-- whether a recursive group begins, rather than a type alone
abbrev pub begins_group : List ℕ → Bool
begins_group text = starts (λ b. b == 0x4e) text

-- ---- bodies (modules, code section)

-- a run of locals: how many, and their type
abbrev pub copied_run : NewIndices → CopiedPart (Unit {0})
copied_run w = copied_number >+> λ n. copied_value w

-- the locals that a body declares
abbrev pub copied_locals : NewIndices → CopiedPart (Unit {0})
copied_locals w = copied_vector (copied_run w)

-- ---- an item that a section defines, by its space

abbrev pub copied_defined : NewIndices → Space → CopiedPart (Unit {0})
copied_defined w Tables = copied_table w
copied_defined w Memories = copied_limits
copied_defined w Tags = copied_tag w
copied_defined w Globals = copied_global w
copied_defined w Elements = copied_element w
copied_defined w Data = copied_data w
copied_defined w _ = copied_index w Types

-- ---- vectors

-- one of what a vector of the code consists of
abbrev pub copied_one : NewIndices → VectorOf → CopiedPart (Unit {0})
copied_one w vectors.Values = copied_value w
copied_one w vectors.Fields = copied_field w
copied_one w (vectors.Indices space) = copied_index w space
copied_one w vectors.Constants = copied_constant w
copied_one w vectors.Runs = copied_run w
