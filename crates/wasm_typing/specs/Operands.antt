-- Operators take operands and give others: the type of an operator, and what it makes of the operands above the height of the innermost
-- frame (WebAssembly core specification 3.0, section 3.4, and the appendix, validation algorithm, whose names are in quotes).
use Rattle.std.specs.Prelude.{ℕ, List, [], ◌∷◌, reverse, Bool, true, false, Ok, Err}
use Rattle.wasm_types.specs.declared.val_type.ValType.{ValType}
use Rattle.wasm_types.specs.declared.val_type.ValType.TheVariants.{Ref}
use Rattle.wasm_numbers.specs.Results.{◌>>=◌}
use Rattle.walrus_ir.specs.Types.{same_type}
use Rattle.wasm_body.specs.Validity.{Operand, Unknown, Known, Point, Change, Checked, refused, demand}
use Rattle.wasm_body.specs.ValidityLaws.{KnownOperand, of_type, of_reference}
use Rattle.wasm_typing.specs.Contexts.{OperandContext, is_number}
use Rattle.wasm_typing.specs.Matching.{matches_known}

-- "instrtype": what an operator takes and gives, the topmost operand last, and the locals that it initialises
pub record InstructionType : Type 0 where
  pub takes : List (ValType ℕ)
  pub gives : List (ValType ℕ)
  pub initialises : List ℕ

infixl 20 ◌⟶◌
abbrev pub ◌⟶◌ : List (ValType ℕ) → List (ValType ℕ) → InstructionType
ts ⟶ us = record { takes = ts; gives = us; initialises = [] }

-- operands of a point, the topmost first
abbrev pub Operands : Type 0
Operands = List (Operand KnownOperand)

-- the same point with other operands
abbrev pub with_operand_list : Point KnownOperand → Operands → Point KnownOperand
with_operand_list p xs = record p { operands = xs }

-- a change that initialises no local
abbrev pub leaving : Operands → Change KnownOperand
leaving xs = record { operands = xs; initialises = [] }

-- ---- operands of given types

-- "push_vals"
abbrev pub push_operands : List (ValType ℕ) → Operands → Operands
push_operands [] xs = xs
push_operands (t ∷ ts) xs = push_operands ts (Known (of_type t) ∷ xs)

-- "pop_val(expect)": below the height of an unreachable frame each operand is unknown, and an unknown one matches each type
abbrev pub pop_operand : OperandContext → (unreachable : Bool) → ValType ℕ → Operands → Checked Operands
pop_operand c unreachable expected [] = demand unreachable >>= λ u. Ok []
pop_operand c unreachable expected (Unknown ∷ xs) = Ok xs
pop_operand c unreachable expected (Known t ∷ xs) = demand (matches_known c t expected) >>= λ u. Ok xs

abbrev pub pop_each_operand : OperandContext → Bool → List (ValType ℕ) → Operands → Checked Operands
pop_each_operand c unreachable [] xs = Ok xs
pop_each_operand c unreachable (t ∷ ts) xs = pop_operand c unreachable t xs >>= λ ys. pop_each_operand c unreachable ts ys

-- "pop_vals"
abbrev pub pop_operands : OperandContext → Bool → List (ValType ℕ) → Operands → Checked Operands
pop_operands c unreachable ts xs = pop_each_operand c unreachable (reverse ts) xs

-- what an operator of this type makes
abbrev pub typed : OperandContext → InstructionType → Point KnownOperand → Checked (Change KnownOperand)
typed c t p = pop_operands c p.unreachable t.takes p.operands >>= λ xs. Ok (record { operands = push_operands t.gives xs; initialises = t.initialises })

-- ---- operands of any type

-- an operand that was popped, and the operands below it
pub record Popped : Type 0 where
  pub operand : Operand KnownOperand
  pub below : Operands

-- "pop_val()"
abbrev pub pop_any : (unreachable : Bool) → Operands → Checked Popped
pop_any unreachable [] = demand unreachable >>= λ u. Ok (record { operand = Unknown; below = [] })
pop_any unreachable (x ∷ xs) = Ok (record { operand = x; below = xs })

-- "pop_ref": an operand that may be a reference, as one; an unknown one is a reference to an unknown heap type that isn't null
pub record PoppedReference : Type 0 where
  pub reference : KnownOperand
  pub below : Operands

abbrev pub as_reference : Operand KnownOperand → Checked KnownOperand
as_reference Unknown = Ok (of_reference false)
as_reference (Known (of_reference nullable)) = Ok (of_reference nullable)
as_reference (Known (of_type (Ref r))) = Ok (of_type (Ref r))
as_reference (Known (of_type _)) = Err refused

abbrev pub pop_reference : Point KnownOperand → Checked PoppedReference
pop_reference p = pop_any p.unreachable p.operands >>= λ q. as_reference q.operand >>= λ r. Ok (record { reference = r; below = q.below })

-- whether it may be null, and the same reference where it isn't null
abbrev pub may_be_null : KnownOperand → Bool
may_be_null (of_type (Ref r)) = r.nullable
may_be_null (of_type _) = false
may_be_null (of_reference nullable) = nullable

abbrev pub not_null : KnownOperand → KnownOperand
not_null (of_type (Ref r)) = of_type (Ref (record r { nullable = false }))
not_null (of_type t) = of_type t
not_null (of_reference nullable) = of_reference false

-- "is_num" or "is_vec"
abbrev pub may_be_number : Operand KnownOperand → Bool
may_be_number Unknown = true
may_be_number (Known (of_type t)) = is_number t
may_be_number (Known (of_reference nullable)) = false

-- both are known to be of one type, or one of them isn't known: the one that is known, if there is one
abbrev pub one_of : Operand KnownOperand → Operand KnownOperand → Checked (Operand KnownOperand)
one_of Unknown y = Ok y
one_of x Unknown = Ok x
one_of (Known (of_type t)) (Known (of_type u)) = demand (same_type t u) >>= λ _. Ok (Known (of_type t))
one_of _ _ = Err refused
