-- Modules by hand, what they spell, and first faults with their places.
use Rattle.std.specs.Prelude.{◌≡◌, ℕ, List, [], ◌∷◌, ◌++◌, Some, Result, Ok, Err, refl}
use Rattle.std.specs.Str.{is_utf8, chars}
use lib.Utf8.{encode}
use Rattle.wasm_types.specs.declared.val_type.ValType.TheVariants.{I32}
use Rattle.wasm_numbers.specs.Numbers.{integer}
use Rattle.wasm_body.specs.declared.error.ParseError.TheVariants as parse
use Rattle.wasm_operators.specs.declared.types.Space.TheVariants as spaces
use Rattle.wasm_operators.specs.Opcodes.{kinds_of_byte, opcode}
use Rattle.wasm_operators.specs.Spelling.{read_operation}
use Rattle.wasm_operators.specs.Types.{value_at, nullable_at, heap_at}
use Rattle.walrus_ir.specs.Types.{Func, Other}
use Rattle.wasm_sections.specs.declared.fault.ModuleError.{ModuleError}
use Rattle.wasm_sections.specs.declared.fault.ModuleFault.{ModuleFault}
use Rattle.wasm_sections.specs.declared.fault.ModuleFault.TheVariants as fault
use Rattle.wasm_sections.specs.Components.{Components, no_components, sections_from, module_of}
use Rattle.wasm_sections.specs.Format.{operators_part}
use Rattle.wasm_sections.specs.Parts.{repeated}
use Rattle.wasm_sections.specs.Sections.{preamble}

-- what a module with these sections spells
abbrev spelt : List ℕ → Result Components ModuleError
spelt sections = module_of (preamble ++ sections)

abbrev fault_at : ModuleFault → (place : ℕ) → Result Components ModuleError
fault_at f place = Err (record { fault = f; at = place })

-- nothing but the preamble
of_nothing : spelt [] ≡ Ok no_components
unfolding sections_from
of_nothing = refl

-- a type, a function `f` from `m`, a function, an export `g` of it, and its body `local.get 0`; of 44 bytes
of_function :
    spelt
    ((0x01 ∷ 0x06 ∷ 0x01 ∷ 0x60 ∷ 0x01 ∷ 0x7f ∷ 0x01 ∷ 0x7f ∷ [])
    ++ (0x02 ∷ 0x07 ∷ 0x01 ∷ 0x01 ∷ 0x6d ∷ 0x01 ∷ 0x66 ∷ 0x00 ∷ 0x00 ∷ [])
    ++ (0x03 ∷ 0x02 ∷ 0x01 ∷ 0x00 ∷ [])
    ++ (0x07 ∷ 0x05 ∷ 0x01 ∷ 0x01 ∷ 0x67 ∷ 0x00 ∷ 0x01 ∷ [])
    ++ (0x0a ∷ 0x06 ∷ 0x01 ∷ 0x04 ∷ 0x00 ∷ 0x20 ∷ 0x00 ∷ 0x0b ∷ []))
    ≡ Ok
    (record no_components {
      types = Func (I32 ∷ []) (I32 ∷ []) ∷ [];
      functions = 0 ∷ 0 ∷ [];
      imported = 1;
      code = Some (44, 0x01 ∷ 0x04 ∷ 0x00 ∷ 0x20 ∷ 0x00 ∷ 0x0b ∷ []);
    })
unfolding integer repeated sections_from value_at nullable_at heap_at is_utf8 chars encode
of_function = refl

-- a recursive group of an open struct type, whose field refers to the second type, and of a final subtype of it with a packed field
of_group :
    spelt
    (0x01 ∷ 0x14 ∷ 0x01 ∷ 0x4e ∷ 0x02 ∷ 0x50 ∷ 0x00 ∷ 0x5f ∷ 0x01 ∷ 0x63 ∷ 0x01 ∷ 0x01 ∷ 0x4f ∷ 0x01 ∷ 0x00 ∷ 0x5f ∷ 0x02 ∷ 0x63 ∷ 0x01 ∷ 0x01
    ∷ 0x78 ∷ 0x00 ∷ [])
    ≡ Ok (record no_components { types = Other ∷ Other ∷ [] })
unfolding integer repeated sections_from value_at nullable_at heap_at
of_group = refl

-- a field refers to the type 1, which there isn't: the place is that of the field's type
forward_at_limit : spelt (0x01 ∷ 0x06 ∷ 0x01 ∷ 0x5f ∷ 0x01 ∷ 0x63 ∷ 0x01 ∷ 0x00 ∷ []) ≡ fault_at (fault.IndexOutOfRange spaces.Types 1) 13
unfolding integer repeated sections_from value_at nullable_at heap_at
forward_at_limit = refl

-- a table, two memories of which one is shared, a tag, a global, an element segment, a data count and a data segment
of_others :
    spelt
    ((0x01 ∷ 0x04 ∷ 0x01 ∷ 0x60 ∷ 0x00 ∷ 0x00 ∷ [])
    ++ (0x04 ∷ 0x04 ∷ 0x01 ∷ 0x70 ∷ 0x00 ∷ 0x01 ∷ [])
    ++ (0x05 ∷ 0x06 ∷ 0x02 ∷ 0x00 ∷ 0x01 ∷ 0x03 ∷ 0x01 ∷ 0x02 ∷ [])
    ++ (0x0d ∷ 0x03 ∷ 0x01 ∷ 0x00 ∷ 0x00 ∷ [])
    ++ (0x06 ∷ 0x06 ∷ 0x01 ∷ 0x7f ∷ 0x01 ∷ 0x41 ∷ 0x2a ∷ 0x0b ∷ [])
    ++ (0x09 ∷ 0x06 ∷ 0x01 ∷ 0x00 ∷ 0x41 ∷ 0x00 ∷ 0x0b ∷ 0x00 ∷ [])
    ++ (0x0c ∷ 0x01 ∷ 0x01 ∷ [])
    ++ (0x0b ∷ 0x07 ∷ 0x01 ∷ 0x00 ∷ 0x41 ∷ 0x00 ∷ 0x0b ∷ 0x01 ∷ 0x61 ∷ []))
    ≡ Ok
    (record no_components {
      types = Func [] [] ∷ [];
      tags = 0 ∷ [];
      tables = 1;
      memories = 2;
      globals = 1;
      elements = 1;
      datas = 1;
      data_count = Some (1, 51);
    })
unfolding integer repeated sections_from value_at nullable_at heap_at read_operation opcode kinds_of_byte operators_part
of_others = refl

-- ---- first faults

bad_magic : module_of (0x00 ∷ 0x61 ∷ 0x73 ∷ 0x6e ∷ 0x01 ∷ 0x00 ∷ 0x00 ∷ 0x00 ∷ []) ≡ fault_at fault.BadMagic 0
bad_magic = refl

bad_version : module_of (0x00 ∷ 0x61 ∷ 0x73 ∷ 0x6d ∷ 0x02 ∷ 0x00 ∷ 0x00 ∷ 0x00 ∷ []) ≡ fault_at fault.BadVersion 4
bad_version = refl

no_version : module_of (0x00 ∷ 0x61 ∷ 0x73 ∷ 0x6d ∷ 0x01 ∷ []) ≡ fault_at fault.Truncated 4
no_version = refl

unknown_section : spelt (0x0e ∷ 0x00 ∷ []) ≡ fault_at fault.UnknownSection 8
unfolding integer sections_from
unknown_section = refl

-- a type section after a function section, and a second one
out_of_order : spelt (0x03 ∷ 0x01 ∷ 0x00 ∷ 0x01 ∷ 0x01 ∷ 0x00 ∷ []) ≡ fault_at fault.SectionOutOfOrder 11
unfolding integer repeated sections_from
out_of_order = refl

twice : spelt (0x03 ∷ 0x01 ∷ 0x00 ∷ 0x03 ∷ 0x01 ∷ 0x00 ∷ []) ≡ fault_at fault.SectionOutOfOrder 11
unfolding integer repeated sections_from
twice = refl

-- tags come before globals, and the data count before code
tags_first : spelt (0x06 ∷ 0x01 ∷ 0x00 ∷ 0x0d ∷ 0x01 ∷ 0x00 ∷ []) ≡ fault_at fault.SectionOutOfOrder 11
unfolding integer repeated sections_from
tags_first = refl

-- custom sections may be anywhere
custom_anywhere : spelt (0x00 ∷ 0x01 ∷ 0x00 ∷ 0x03 ∷ 0x01 ∷ 0x00 ∷ 0x00 ∷ 0x02 ∷ 0x00 ∷ 0xff ∷ []) ≡ Ok no_components
unfolding integer repeated sections_from is_utf8 chars
custom_anywhere = refl

-- no type, and a byte after it
trailing : spelt (0x01 ∷ 0x02 ∷ 0x00 ∷ 0x07 ∷ []) ≡ fault_at fault.Trailing 11
unfolding integer repeated sections_from
trailing = refl

-- a section longer than the module
section_cut : spelt (0x01 ∷ 0x05 ∷ 0x00 ∷ []) ≡ fault_at fault.Truncated 10
unfolding integer repeated sections_from
section_cut = refl

-- a function of the type 0, which there isn't
no_type : spelt (0x03 ∷ 0x02 ∷ 0x01 ∷ 0x00 ∷ []) ≡ fault_at (fault.IndexOutOfRange spaces.Types 0) 11
unfolding integer repeated sections_from
no_type = refl

-- an export of the memory 0, which there isn't: the place is that of the index
no_memory : spelt (0x07 ∷ 0x04 ∷ 0x01 ∷ 0x00 ∷ 0x02 ∷ 0x00 ∷ []) ≡ fault_at (fault.IndexOutOfRange spaces.Memories 0) 13
unfolding integer repeated sections_from is_utf8 chars
no_memory = refl

-- a function without a body: without a code section, and with one of no body
no_code : spelt (0x01 ∷ 0x04 ∷ 0x01 ∷ 0x60 ∷ 0x00 ∷ 0x00 ∷ 0x03 ∷ 0x02 ∷ 0x01 ∷ 0x00 ∷ []) ≡ fault_at fault.BodyCount 18
unfolding integer repeated sections_from
no_code = refl

no_body : spelt (0x01 ∷ 0x04 ∷ 0x01 ∷ 0x60 ∷ 0x00 ∷ 0x00 ∷ 0x03 ∷ 0x02 ∷ 0x01 ∷ 0x00 ∷ 0x0a ∷ 0x01 ∷ 0x00 ∷ []) ≡ fault_at fault.BodyCount 20
unfolding integer repeated sections_from
no_body = refl

-- a data count of 1, and no data
data_missing : spelt (0x0c ∷ 0x01 ∷ 0x01 ∷ []) ≡ fault_at fault.DataCount 10
unfolding integer repeated sections_from
data_missing = refl

-- a name whose byte is no UTF-8: the place is that of its length
bad_name : spelt (0x07 ∷ 0x05 ∷ 0x01 ∷ 0x01 ∷ 0xff ∷ 0x00 ∷ 0x00 ∷ []) ≡ fault_at fault.BadName 11
unfolding integer repeated sections_from is_utf8 chars
bad_name = refl

-- an import of a function of the type 0, which there isn't: the place is after the names
import_no_type : spelt (0x02 ∷ 0x07 ∷ 0x01 ∷ 0x01 ∷ 0x6d ∷ 0x01 ∷ 0x66 ∷ 0x00 ∷ 0x00 ∷ []) ≡ fault_at (fault.IndexOutOfRange spaces.Types 0) 15
unfolding integer repeated sections_from is_utf8 chars encode
import_no_type = refl

-- a function whose type is a struct type
no_function_type : spelt (0x01 ∷ 0x03 ∷ 0x01 ∷ 0x5f ∷ 0x00 ∷ 0x03 ∷ 0x02 ∷ 0x01 ∷ 0x00 ∷ []) ≡ fault_at (fault.Parse parse.NotAFunctionType) 16
unfolding integer repeated sections_from value_at nullable_at heap_at
no_function_type = refl

-- a start function that there isn't
no_start : spelt (0x08 ∷ 0x01 ∷ 0x00 ∷ []) ≡ fault_at (fault.IndexOutOfRange spaces.Funcs 0) 10
unfolding integer repeated sections_from
no_start = refl

-- without a data count, data segments have no index
data_uncounted : spelt (0x0b ∷ 0x03 ∷ 0x01 ∷ 0x01 ∷ 0x00 ∷ []) ≡ Ok no_components
unfolding integer repeated sections_from
data_uncounted = refl

-- the data count comes after elements and before code
data_count_late : spelt (0x0a ∷ 0x01 ∷ 0x00 ∷ 0x0c ∷ 0x01 ∷ 0x00 ∷ []) ≡ fault_at fault.SectionOutOfOrder 11
unfolding integer repeated sections_from
data_count_late = refl

-- what `wat2wasm` makes of a module with two imports, a table, a global, three functions of which the last is the start function, two
-- exports, an element segment and a data segment; of 129 bytes
of_wat2wasm :
    spelt
    ((0x01 ∷ 0x0d ∷ 0x03 ∷ 0x60 ∷ 0x01 ∷ 0x7f ∷ 0x01 ∷ 0x7f ∷ 0x60 ∷ 0x00 ∷ 0x01 ∷ 0x7f ∷ 0x60 ∷ 0x00 ∷ 0x00 ∷ [])
    ++ (0x02 ∷ 0x17 ∷ 0x02 ∷ 0x03 ∷ 0x65 ∷ 0x6e ∷ 0x76 ∷ 0x03 ∷ 0x6c ∷ 0x6f ∷ 0x67 ∷ 0x00 ∷ 0x00 ∷ 0x03 ∷ 0x65 ∷ 0x6e ∷ 0x76 ∷ 0x03 ∷ 0x6d ∷ 0x65
    ∷ 0x6d ∷ 0x02 ∷ 0x01 ∷ 0x01 ∷ 0x02 ∷ [])
    ++ (0x03 ∷ 0x04 ∷ 0x03 ∷ 0x00 ∷ 0x01 ∷ 0x02 ∷ [])
    ++ (0x04 ∷ 0x04 ∷ 0x01 ∷ 0x70 ∷ 0x00 ∷ 0x03 ∷ [])
    ++ (0x06 ∷ 0x06 ∷ 0x01 ∷ 0x7e ∷ 0x01 ∷ 0x42 ∷ 0x7b ∷ 0x0b ∷ [])
    ++ (0x07 ∷ 0x0f ∷ 0x02 ∷ 0x03 ∷ 0x74 ∷ 0x77 ∷ 0x6f ∷ 0x00 ∷ 0x02 ∷ 0x05 ∷ 0x74 ∷ 0x61 ∷ 0x62 ∷ 0x6c ∷ 0x65 ∷ 0x01 ∷ 0x00 ∷ [])
    ++ (0x08 ∷ 0x01 ∷ 0x03 ∷ [])
    ++ (0x09 ∷ 0x08 ∷ 0x01 ∷ 0x00 ∷ 0x41 ∷ 0x01 ∷ 0x0b ∷ 0x02 ∷ 0x01 ∷ 0x02 ∷ [])
    ++ (0x0a ∷ 0x13 ∷ 0x03 ∷ 0x07 ∷ 0x00 ∷ 0x20 ∷ 0x00 ∷ 0x41 ∷ 0x01 ∷ 0x6a ∷ 0x0b ∷ 0x06 ∷ 0x00 ∷ 0x41 ∷ 0x02 ∷ 0x10 ∷ 0x01 ∷ 0x0b ∷ 0x02 ∷ 0x00
    ∷ 0x0b ∷ [])
    ++ (0x0b ∷ 0x08 ∷ 0x01 ∷ 0x00 ∷ 0x41 ∷ 0x08 ∷ 0x0b ∷ 0x02 ∷ 0x68 ∷ 0x69 ∷ []))
    ≡ Ok
    (record no_components {
      types = Func (I32 ∷ []) (I32 ∷ []) ∷ Func [] (I32 ∷ []) ∷ Func [] [] ∷ [];
      functions = 0 ∷ 0 ∷ 1 ∷ 2 ∷ [];
      imported = 1;
      tables = 1;
      memories = 1;
      globals = 1;
      elements = 1;
      code =
          Some (
            119,
            0x03 ∷ 0x07 ∷ 0x00 ∷ 0x20 ∷ 0x00 ∷ 0x41 ∷ 0x01 ∷ 0x6a ∷ 0x0b ∷ 0x06 ∷ 0x00 ∷ 0x41 ∷ 0x02 ∷ 0x10 ∷ 0x01 ∷ 0x0b ∷ 0x02 ∷ 0x00 ∷ 0x0b ∷ [],
          );
    })
unfolding integer repeated sections_from value_at nullable_at heap_at read_operation opcode kinds_of_byte operators_part is_utf8 chars encode
of_wat2wasm = refl
