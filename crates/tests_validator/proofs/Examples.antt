-- Modules by hand, and their validity, computed.
use Rattle.std.specs.Prelude.{◌≡◌, ℕ, List, [], ◌∷◌, ◌++◌, Result, Ok, Err, refl}
use Rattle.wasm_numbers.specs.Numbers.{integer}
use Rattle.wasm_operators.specs.Opcodes.{kinds_of_byte, opcode}
use Rattle.wasm_operators.specs.Spelling.{read_operation}
use Rattle.wasm_operators.specs.Types.{value_at, nullable_at, heap_at}
use Rattle.wasm_sections.specs.declared.fault.ModuleError.{ModuleError}
use Rattle.wasm_sections.specs.declared.fault.ModuleFault.{ModuleFault}
use Rattle.wasm_sections.specs.declared.fault.ModuleFault.TheVariants as fault
use Rattle.wasm_sections.specs.Format.{operators_part}
use Rattle.wasm_sections.specs.Parts.{repeated}
use Rattle.wasm_sections.specs.References.{expression_part}
use Rattle.wasm_sections.specs.Sections.{preamble}
use Rattle.module_context.specs.InvalidFaults.{invalid_operator, invalid_limits}
use Rattle.module_context.specs.SectionSteps.{through_sections}
use Rattle.module_validator.specs.CodeValidity.{code_from}
use Rattle.module_validator.specs.ConstantRules.{constant_from}
use Rattle.module_validator.specs.ModuleRules.{module_validity}

-- the validity of a module with these sections
abbrev validity : List ℕ → Result (Unit {0}) ModuleError
validity sections = module_validity (preamble ++ sections)

abbrev refusal_at : ModuleFault → (place : ℕ) → Result (Unit {0}) ModuleError
refusal_at f place = Err (record { fault = f; at = place })

-- nothing but the preamble
of_nothing : validity [] ≡ Ok tt
unfolding through_sections
of_nothing = refl

-- a function of two i32 that gives an i32, with this operator on both
abbrev with_operator : ℕ → List ℕ
with_operator b =
    (0x01 ∷ 0x07 ∷ 0x01 ∷ 0x60 ∷ 0x02 ∷ 0x7f ∷ 0x7f ∷ 0x01 ∷ 0x7f ∷ []) ++ (0x03 ∷ 0x02 ∷ 0x01 ∷ 0x00 ∷ [])
    ++ (0x0a ∷ 0x09 ∷ 0x01 ∷ 0x07 ∷ 0x00 ∷ 0x20 ∷ 0x00 ∷ 0x20 ∷ 0x01 ∷ b ∷ 0x0b ∷ [])

-- i32.add
of_sum : validity (with_operator 0x6a) ≡ Ok tt
unfolding integer repeated through_sections value_at nullable_at heap_at read_operation opcode kinds_of_byte code_from
of_sum = refl

-- i64.add takes no i32: the place is that of the operator
of_other_sum : validity (with_operator 0x7c) ≡ refusal_at invalid_operator 30
unfolding integer repeated through_sections value_at nullable_at heap_at read_operation opcode kinds_of_byte code_from
of_other_sum = refl

-- a memory whose minimum is greater than its maximum
of_limits : validity (0x05 ∷ 0x04 ∷ 0x01 ∷ 0x01 ∷ 0x02 ∷ 0x01 ∷ []) ≡ refusal_at invalid_limits 11
unfolding integer repeated through_sections
of_limits = refl

-- a global whose initial value is the sum of two constants, and one whose initial value is its own
of_constant : validity (0x06 ∷ 0x09 ∷ 0x01 ∷ 0x7f ∷ 0x00 ∷ 0x41 ∷ 0x01 ∷ 0x41 ∷ 0x02 ∷ 0x6a ∷ 0x0b ∷ []) ≡ Ok tt
unfolding integer repeated through_sections value_at nullable_at heap_at read_operation opcode kinds_of_byte operators_part expression_part constant_from code_from
of_constant = refl

of_own_value : validity (0x06 ∷ 0x06 ∷ 0x01 ∷ 0x7f ∷ 0x00 ∷ 0x23 ∷ 0x00 ∷ 0x0b ∷ []) ≡ refusal_at fault.BadConstant 13
unfolding integer repeated through_sections value_at nullable_at heap_at read_operation opcode kinds_of_byte operators_part expression_part constant_from code_from
of_own_value = refl
