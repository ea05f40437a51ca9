-- An instruction that can be inserted is that of a plain operator, with names.
use Rattle.std.proofs.Common.{◌≡◌, ℕ, List, [], ◌∷◌, map, refl, sym, ap, ◌∙◌}
use Rattle.walrus_ir.specs.declared.value.Value.{Value}
use Rattle.walrus_ir.specs.declared.value.Value.TheVariants.{I32, I64, F32, F64, V128}
use Rattle.wasm_types.specs.declared.unary.UnaryOp.{UnaryOp}
use Rattle.wasm_types.specs.declared.unary.UnaryOp.TheVariants as unary
use Rattle.wasm_types.specs.declared.binary.BinaryOp.{BinaryOp}
use Rattle.wasm_types.specs.declared.binary.BinaryOp.TheVariants as binary
use Rattle.wasm_types.specs.declared.ternary.TernaryOp.{TernaryOp}
use Rattle.wasm_types.specs.declared.ternary.TernaryOp.TheVariants as ternary
use Rattle.walrus_ir.specs.Locations.{default_location}
use Rattle.walrus_ir.specs.Unfolding.{slots_in}
use Rattle.wasm_operators.specs.UnaryOperations.{unary_operation}
use Rattle.wasm_operators.specs.BinaryOperations.{binary_operation}
use Rattle.wasm_operators.specs.TernaryOperations.{ternary_operation}
use Rattle.wasm_body.specs.Control.{a_plain, role_of, control_by, control_of, Plain, Does}
use Rattle.wasm_body.specs.FunctionTree.{TreeOperation, LegacyClause, Instruction}
use Rattle.wasm_body.specs.InstructionTable.{PlacedOperation, operation_of, const_operation, clauses_of_try}
use Rattle.wasm_body.specs.Naming.{block_types}
use Rattle.wasm_body.specs.NormalForm.{kept_operation, instruction}
use Rattle.wasm_body.specs.TreeOfFunction.{with_targets, instruction_in}
use Rattle.walrus_insertion.specs.declared.plain_instr.PlainInstr.{PlainInstr}
use Rattle.walrus_insertion.specs.declared.plain_instr.PlainInstr.TheVariants as plain
use Rattle.walrus_insertion.specs.PlainInstructions.{instr_of}
use Rattle.walrus_insertion.specs.Edits.{added}
use Rattle.walrus_insertion.specs.BegunBodies.{unplaced, unplaced_operation, inserted_operator}

record IsPlainOperator (o : PlacedOperation) : Type 0 where
  pub role : role_of o.opcode ≡ a_plain
  pub no_blocks : block_types (map unplaced o.immediates) ≡ []
  pub same : (around : List ℕ) → kept_operation (unplaced_operation o) ≡ with_targets around o

of_const : (v : Value) → IsPlainOperator (const_operation v)
of_const (I32 z) = record { role = refl; no_blocks = refl; same = λ around. refl }
of_const _ = record { role = refl; no_blocks = refl; same = λ around. refl }

of_unary : (op : UnaryOp) → IsPlainOperator (unary_operation op)
of_unary (unary.I8x16ExtractLaneS n) = record { role = refl; no_blocks = refl; same = λ around. refl }
of_unary _ = record { role = refl; no_blocks = refl; same = λ around. refl }

of_binary : (op : BinaryOp) → IsPlainOperator (binary_operation op)
of_binary (binary.I8x16ReplaceLane n) = record { role = refl; no_blocks = refl; same = λ around. refl }
of_binary _ = record { role = refl; no_blocks = refl; same = λ around. refl }

of_ternary : (op : TernaryOp) → IsPlainOperator (ternary_operation op)
of_ternary ternary.F32x4RelaxedMadd = record { role = refl; no_blocks = refl; same = λ around. refl }
of_ternary _ = record { role = refl; no_blocks = refl; same = λ around. refl }

of_plain : (p : PlainInstr) → IsPlainOperator (operation_of (instr_of p))
of_plain (plain.Const x) = of_const x.value
of_plain (plain.Unop x) = of_unary x.op
of_plain (plain.Binop x) = of_binary x.op
of_plain (plain.TernOp x) = of_ternary x.op
of_plain _ = record { role = refl; no_blocks = refl; same = λ around. refl }

pub no_slots : (p : PlainInstr) → slots_in (instr_of p) ≡ []
no_slots (plain.Call x) = refl
no_slots _ = refl

no_clauses : (p : PlainInstr) → clauses_of_try (instr_of p) ≡ []
no_clauses (plain.Call x) = refl
no_clauses _ = refl

-- ---- the instruction in the tree

pub inserted_is_plain : (p : PlainInstr) → control_of (inserted_operator p).op ≡ Does Plain
inserted_is_plain p = ap (λ r. control_by r (inserted_operator p).op.immediates) (of_plain p).role

pub inserted_has_no_blocks : (p : PlainInstr) → block_types (inserted_operator p).op.immediates ≡ []
inserted_has_no_blocks p = (of_plain p).no_blocks

abbrev unlocated : TreeOperation → List LegacyClause → Instruction
unlocated o cs = record { op = o; clauses = cs; location = default_location }

pub inserted_instruction : (around : List ℕ) (p : PlainInstr) → instruction (inserted_operator p) [] ≡ instruction_in around (added p)
inserted_instruction around p =
    ap (λ o. unlocated o []) ((of_plain p).same around) ∙ ap (unlocated (with_targets around (operation_of (instr_of p)))) (sym (no_clauses p))
