-- What the algorithm does at plain operators.
use Rattle.std.specs.Prelude.{ℕ, ◌-◌, List, [], ◌∷◌, map, replicate, length, Bool, true, false, nat_eq, if◌then◌else◌, slice_get, Result, Ok, Err}
use Rattle.wasm_types.specs.declared.val_type.ValType.{ValType}
use Rattle.wasm_numbers.specs.Results.{◌>>=◌}
use Rattle.wasm_body.specs.Validity as algorithm
use Rattle.wasm_body.specs.Validity.{Stacks, Point, Change, Checked, demand, required, refused, set_locals}
use Rattle.wasm_body.specs.ValidityLaws.{KnownOperand}
use Rattle.wasm_typing.specs.Contexts as standard
use Rattle.wasm_typing.specs.Contexts.{OperandContext, unpacked, struct_type}
use Rattle.wasm_typing.specs.Operands.{InstructionType, ◌⟶◌}
use Rattle.wasm_typing.specs.StandardRules.{standard_rules}
use Rattle.wasm_context.specs.Validation.{BodyContext, BodyState, typing_in}
use Rattle.wasm_context.specs.Contexts.{field_of}
use Rattle.wasm_context.specs.declared.types.FieldType.{FieldType}
use Rattle.wasm_validator.specs.declared.fault.Fault.{Fault}
use Rattle.wasm_validator.specs.declared.fault.Fault.TheVariants as fault
use Rattle.wasm_validator.specs.declared.operand.Operand.{Operand}
use Rattle.wasm_validator.specs.declared.state.Validator.{Validator}
use Rattle.wasm_validator.specs.States.{Known, known_of}
use Rattle.wasm_validator.specs.Steps.{setting_of, operand_stack, stacks_of, inner_of, outer_of, typed_in}

-- ---- operators of a type

-- these operands, and the locals that were initialised before and these
abbrev pub stacks_with : Validator → (initialises : List ℕ) → List Known → Stacks KnownOperand
stacks_with v ns xs = record { operands = xs; initialised = set_locals ns (stacks_of v).initialised }

abbrev pub state_with_stacks : Validator → Stacks KnownOperand → BodyState
state_with_stacks v s = record { stacks = s; controls = inner_of v ∷ outer_of v }

-- What the type takes is popped, what it gives is pushed, and its locals are initialised.
abbrev pub plain_in : Validator → Checked InstructionType → Checked BodyState
plain_in v type =
    type >>= λ t. typed_in (setting_of v) (inner_of v) t.takes t.gives (operand_stack v) >>= λ xs. Ok (state_with_stacks v (stacks_with v t.initialises xs))

-- the types of fields, as operands
abbrev pub field_types : List FieldType → List (ValType ℕ)
field_types fields = map (λ f. unpacked f.storage) (map field_of fields)

-- ---- operators by a rule for operands

-- what the rule looks at
abbrev pub point_in : Validator → Point KnownOperand
point_in v = algorithm.point (typing_in (setting_of v)) (standard_rules (setting_of v).operands) (inner_of v) (stacks_of v)

abbrev pub changed_in : Validator → Change KnownOperand → BodyState
changed_in v k = state_with_stacks v (algorithm.changed (typing_in (setting_of v)) (standard_rules (setting_of v).operands) (inner_of v) k (stacks_of v))

abbrev pub pointed_in : Validator → (Point KnownOperand → Checked (Change KnownOperand)) → Checked BodyState
pointed_in v rule = rule (point_in v) >>= λ k. Ok (changed_in v k)

-- a field of a struct type
abbrev pub field_in : OperandContext → (x i : ℕ) → Checked standard.FieldType
field_in c x i = struct_type c x >>= λ fs. required (slice_get fs i)

-- `local.get`: the local is there, and is initialised
abbrev pub local_get_in : Validator → ℕ → Checked BodyState
local_get_in v n =
    required (slice_get (setting_of v).operands.locals n) >>= λ t. demand (standard.contains n (stacks_of v).initialised) >>= λ u.
    plain_in v (Ok ([] ⟶ t ∷ []))
