-- A module by hand, and its context, computed.
use Rattle.std.specs.Prelude.{◌≡◌, ℕ, List, [], ◌∷◌, ◌++◌, true, false, None, Result, Ok, Err, refl}
use Rattle.std.specs.Str.{is_utf8, chars}
use lib.Utf8.{encode}
use Rattle.wasm_types.specs.declared.val_type.AbstractHeapType.TheVariants as abstract
use Rattle.wasm_types.specs.declared.val_type.HeapType.TheVariants.{Abstract, Concrete}
use Rattle.wasm_types.specs.declared.val_type.ValType.TheVariants.{I32}
use Rattle.walrus_ir.specs.Types.{signature}
use Rattle.wasm_numbers.specs.Numbers.{integer}
use Rattle.wasm_operators.specs.Opcodes.{kinds_of_byte, opcode}
use Rattle.wasm_operators.specs.Spelling.{read_operation}
use Rattle.wasm_operators.specs.Types.{value_at, nullable_at, heap_at}
use Rattle.wasm_typing.specs.Contexts.{Unpacked, Function, Struct, Address32}
use Rattle.wasm_typing.specs.Rules.{ref_null}
use Rattle.wasm_sections.specs.declared.fault.ModuleError.{ModuleError}
use Rattle.wasm_sections.specs.declared.fault.ModuleFault.{ModuleFault}
use Rattle.wasm_sections.specs.declared.fault.ModuleFault.TheVariants as fault
use Rattle.wasm_sections.specs.Format.{operators_part}
use Rattle.wasm_sections.specs.Parts.{repeated}
use Rattle.wasm_sections.specs.References.{expression_part}
use Rattle.wasm_sections.specs.Sections.{preamble}
use Rattle.module_context.specs.ModuleContexts.{ModuleSetting, nothing_declared, setting_with_references, module_setting}
use Rattle.module_context.specs.SectionSteps.{through_sections}
use Rattle.module_context.specs.InvalidFaults.{invalid_type}

-- what a module with these sections declares
abbrev declares : List ℕ → Result ModuleSetting ModuleError
declares sections = module_setting (preamble ++ sections)

abbrev fault_at : ModuleFault → (place : ℕ) → Result ModuleSetting ModuleError
fault_at f place = Err (record { fault = f; at = place })

-- nothing but the preamble
of_nothing : declares [] ≡ Ok (setting_with_references nothing_declared)
unfolding through_sections
of_nothing = refl

-- A group of an open struct that names the second type and of a function type from nothing to nothing; an imported variable global; two
-- functions; a table; an export of function 1, and a start function 0; and a segment with the element 1.
of_group :
    declares
    ((0x01 ∷ 0x0d ∷ 0x01 ∷ 0x4e ∷ 0x02 ∷ 0x50 ∷ 0x00 ∷ 0x5f ∷ 0x01 ∷ 0x63 ∷ 0x01 ∷ 0x00 ∷ 0x60 ∷ 0x00 ∷ 0x00 ∷ [])
    ++ (0x02 ∷ 0x08 ∷ 0x01 ∷ 0x01 ∷ 0x6d ∷ 0x01 ∷ 0x67 ∷ 0x03 ∷ 0x7f ∷ 0x01 ∷ [])
    ++ (0x03 ∷ 0x03 ∷ 0x02 ∷ 0x01 ∷ 0x01 ∷ [])
    ++ (0x04 ∷ 0x04 ∷ 0x01 ∷ 0x70 ∷ 0x00 ∷ 0x01 ∷ [])
    ++ (0x07 ∷ 0x05 ∷ 0x01 ∷ 0x01 ∷ 0x65 ∷ 0x00 ∷ 0x01 ∷ [])
    ++ (0x08 ∷ 0x01 ∷ 0x00 ∷ [])
    ++ (0x09 ∷ 0x07 ∷ 0x01 ∷ 0x00 ∷ 0x41 ∷ 0x00 ∷ 0x0b ∷ 0x01 ∷ 0x01 ∷ []))
    ≡ Ok
    (record {
      body = record {
        operands = record {
          types =
              record { composite = Struct (record { mutable = false; storage = Unpacked (ref_null (Concrete 1)) } ∷ []); supertype = None; first = 0 }
              ∷ record { composite = Function (signature [] []); supertype = None; first = 1 } ∷ [];
          functions = 1 ∷ 1 ∷ [];
          referenced = 1 ∷ [];
          tables = record { address = Address32; element = record { nullable = true; heap_type = Abstract abstract.Func } } ∷ [];
          memories = [];
          globals = record { mutable = true; type = I32 } ∷ [];
          elements = record { nullable = false; heap_type = Abstract abstract.Func } ∷ [];
          data_segments = 0;
          locals = [];
        };
        tags = [];
      };
      imported_globals = 1;
    })
unfolding integer repeated through_sections value_at nullable_at heap_at read_operation opcode kinds_of_byte operators_part expression_part is_utf8 chars encode
of_group = refl

-- a type that names one of a later group: the place is that of its group
of_later_group :
    declares (0x01 ∷ 0x09 ∷ 0x02 ∷ 0x5f ∷ 0x01 ∷ 0x63 ∷ 0x01 ∷ 0x00 ∷ 0x60 ∷ 0x00 ∷ 0x00 ∷ []) ≡ fault_at invalid_type 11
unfolding integer repeated through_sections value_at nullable_at heap_at
of_later_group = refl

-- a supertype that is final: the place is that of the contents
of_final_supertype :
    declares (0x01 ∷ 0x0a ∷ 0x02 ∷ 0x60 ∷ 0x00 ∷ 0x00 ∷ 0x50 ∷ 0x01 ∷ 0x00 ∷ 0x60 ∷ 0x00 ∷ 0x00 ∷ []) ≡ fault_at invalid_type 10
unfolding integer repeated through_sections value_at nullable_at heap_at
of_final_supertype = refl
