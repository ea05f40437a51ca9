-- Constant expressions (WebAssembly core specification 3.0, section 3.4, constant expressions): each operator is constant, and the whole is
-- valid code with one result, without locals.
use Rattle.std.specs.Prelude.{ℕ, zero, suc, ◌+◌, ◌-◌, ◌==◌, nat_lt, not, ◌&&◌, ◌||◌, if◌then◌else◌, Bool, false, List, [], ◌∷◌, length, slice_get, Result, Ok, Err}
use Rattle.std.specs.List.{list_all}
use Rattle.wasm_types.specs.declared.val_type.ValType.{ValType}
use Rattle.wasm_numbers.specs.Results.{◌>>=◌, with_fault}
use Rattle.wasm_operators.specs.declared.types.Opcode.{Opcode}
use Rattle.wasm_operators.specs.declared.types.Opcode.TheVariants.{Byte, Prefixed}
use Rattle.wasm_operators.specs.Operations.{RawOperation}
use Rattle.wasm_operators.specs.Parts.{shape_of}
use Rattle.wasm_operators.specs.Spelling.{read_operation}
use Rattle.wasm_typing.specs.Contexts.{OperandContext, contains}
use Rattle.wasm_typing.specs.Matching.{holds_of}
use Rattle.wasm_validation.specs.BodyValidation.{BodySetting}
use Rattle.wasm_sections.specs.declared.fault.ModuleError.{ModuleError}
use Rattle.wasm_sections.specs.declared.fault.ModuleFault.{ModuleFault}
use Rattle.wasm_sections.specs.declared.fault.ModuleFault.TheVariants as fault
use Rattle.wasm_sections.specs.Format.{constant_part}
use Rattle.wasm_sections.specs.Parts.{Part}
use Rattle.wasm_sections.specs.References.{only_index}
use Rattle.module_context.specs.ModuleContexts.{ModuleSetting}
use Rattle.module_validator.specs.CodeValidity.{fault_there, code_validity}

-- a test, with the fault of where it fails
abbrev pub only_if : Bool → ModuleFault → Result (Unit {0}) ModuleFault
only_if holds f = if holds then Ok tt else Err f

-- ---- constant operators

-- those of one byte: `end`, the constants of numbers, `add`, `sub` and `mul` of integers, `ref.null` and `ref.func`
abbrev pub constant_bytes : List ℕ
constant_bytes = 0x0b ∷ 0x41 ∷ 0x42 ∷ 0x43 ∷ 0x44 ∷ 0x6a ∷ 0x6b ∷ 0x6c ∷ 0x7c ∷ 0x7d ∷ 0x7e ∷ 0xd0 ∷ 0xd2 ∷ []

-- those after 0xfb: `struct.new`, `struct.new_default`, `array.new`, `array.new_default`, `array.new_fixed`, `any.convert_extern`,
-- `extern.convert_any` and `ref.i31`
abbrev pub constant_after_fb : List ℕ
constant_after_fb = 0 ∷ 1 ∷ 6 ∷ 7 ∷ 8 ∷ 26 ∷ 27 ∷ 28 ∷ []

-- and `v128.const`
abbrev pub is_constant_opcode : Opcode → Bool
is_constant_opcode (Byte b) = contains b constant_bytes
is_constant_opcode (Prefixed p n) = (p == 0xfb && contains n constant_after_fb) || (p == 0xfd && n == 12)

abbrev pub is_global_get : Opcode → Bool
is_global_get (Byte b) = b == 0x23
is_global_get (Prefixed p n) = false

-- a global that can't be changed, and that is one of the first so many
abbrev pub is_constant_global : OperandContext → (globals : ℕ) → ℕ → Bool
is_constant_global c globals n = nat_lt n globals && holds_of (λ g. not g.mutable) (slice_get c.globals n)

-- an operator of a constant expression that may get the first so many globals
abbrev pub is_constant : OperandContext → (globals : ℕ) → RawOperation → Bool
is_constant c globals o =
    is_constant_opcode o.opcode || (is_global_get o.opcode && list_all (is_constant_global c globals) (only_index (shape_of o.immediates)))

-- the operators of these bytes are constant; or the first that isn't, or that can't be read
unfoldable pub constant_from : (most : ℕ) → OperandContext → (globals : ℕ) → (place : ℕ) → (bytes : List ℕ) → Result (Unit {0}) ModuleError
constant_from most c globals place [] = Ok tt
constant_from zero c globals place (b ∷ bs) = Ok tt
constant_from (suc most) c globals place (b ∷ bs) =
    with_fault (λ f. fault_there place (fault.Read f)) (read_operation (b ∷ bs)) >>= λ x.
    with_fault (fault_there place) (only_if (is_constant c globals x.0) fault.BadConstant) >>= λ u.
    constant_from most c globals (place + (length (b ∷ bs) - length x.1)) x.1

-- ---- constant expressions

abbrev pub constant_setting : ModuleSetting → ValType ℕ → BodySetting
constant_setting s type = record { context = s.body; parameters = 0; results = type ∷ [] }

-- the bytes of an expression of this type, which may get the first so many globals
abbrev pub constant_validity : ModuleSetting → (globals : ℕ) → ValType ℕ → (place : ℕ) → (bytes : List ℕ) → Result (Unit {0}) ModuleError
constant_validity s globals type place bytes =
    constant_from (length bytes) s.body.operands globals place bytes >>= λ u. code_validity (constant_setting s type) place bytes

abbrev pub constant_rule : ModuleSetting → (globals : ℕ) → ValType ℕ → Part (Unit {0})
constant_rule s globals type end text =
    constant_part end text >>= λ x. constant_validity s globals type (end - length text) x.0 >>= λ u. Ok (tt, x.1)
