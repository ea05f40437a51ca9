use Rattle.std.proofs.Common.{◌≡◌, ℕ, List, true, refl, sym, subst, Result, Ok, Err, inl, inr}
use Rattle.walrus_ir.specs.declared.instr.Instr.{Instr}
use Rattle.walrus_ir.specs.declared.instr.Instr.TheVariants as instr
use Rattle.walrus_ir.specs.declared.val_type.InstrSeqType.{InstrSeqType}
use Rattle.wasm_operators.specs.declared.types.BlockType.{BlockType}
use Rattle.wasm_operators.specs.Operations.{CatchClause}
use Rattle.wasm_body.specs.declared.error.EmitError.{EmitError}
use Rattle.wasm_body.specs.Bytes.{Numbers}
use Rattle.walrus_to_operators.proofs.TreeWriting.Labels.{table_written, try_written, try_operator}
use Rattle.walrus_emit_state.specs.TreeWriting.Closers.{places_of}
use Rattle.walrus_numbering.specs.NumberMaps.{numbers_of}
use Rattle.walrus_to_operators.specs.TreeWriting.Operators.{numbered_operator}
use Rattle.walrus_to_operators.specs.TreeWriting.References.{is_reference}
use Rattle.walrus_to_operators.proofs.operators.operator_of.Goals as goal

pub returns-in-Ok-branch_table-clause-operator : goal.returns-in-Ok-branch_table-clause-operator
returns-in-Ok-branch_table-clause-operator c = (
  table_written (numbers_of c.args.numbers.now) (places_of c.args.scopes.now.open_scopes) c.args.ty c.args.instr.now
      c.in-BrTable.table (Ok c.in-Ok-branch_table.table) c.in-BrTable.is c.in-Ok-branch_table.ensures.ok,
  (tt, tt),
)

pub returns-in-Err-branch_table-clause-operator : goal.returns-in-Err-branch_table-clause-operator
returns-in-Err-branch_table-clause-operator c = elim c.in-Err-branch_table.ensures.err [
  | inl memory ↦ inl memory
  | inr missing ↦ inr (
      table_written (numbers_of c.args.numbers.now) (places_of c.args.scopes.now.open_scopes) c.args.ty c.args.instr.now
      c.in-BrTable.table (Err c.in-Err-branch_table.fault) c.in-BrTable.is missing
      )
]

-- a `try_table` whose block type has a number
abbrev IsWritten : Numbers → List ℕ → InstrSeqType → Instr → Result BlockType EmitError → Result (List (CatchClause ℕ)) EmitError → Type 0
IsWritten to around type i block cs = numbered_operator to around type i ≡ try_operator block cs

pub returns-in-Ok-clause-operator : goal.returns-in-Ok-clause-operator
returns-in-Ok-clause-operator c =
    let numbers = numbers_of c.args.numbers.now in
    let around = places_of c.args.scopes.now.open_scopes in
    let clauses = Ok c.in-Ok.catches in
    let written = try_written numbers around c.args.ty c.args.instr.now c.in-TryTable.construct clauses c.in-TryTable.is c.in-Ok.ensures.ok in
    (subst (λ block. IsWritten numbers around c.args.ty c.args.instr.now block clauses) (sym c.in_ok-ty-in-TryTable.ensures) written, (tt, (tt, tt)))

pub returns-in-Err-clause-operator : goal.returns-in-Err-clause-operator
returns-in-Err-clause-operator c = elim c.in-Err.ensures.err [
  | inl memory ↦ inl memory
  | inr missing ↦ inr (
      let numbers = numbers_of c.args.numbers.now in
      let around = places_of c.args.scopes.now.open_scopes in
      let clauses = Err c.in-Err.fault in
      let written = try_written numbers around c.args.ty c.args.instr.now c.in-TryTable.construct clauses c.in-TryTable.is missing in
      subst (λ block. IsWritten numbers around c.args.ty c.args.instr.now block clauses) (sym c.in_ok-ty-in-TryTable.ensures) written
      )
]

-- ---- an operator on references, structs or arrays

pub reference_operator-requires : goal.reference_operator-requires
reference_operator-requires c = references_alone c.args.instr.now refl
  where
    references_alone : (i : Instr) → c.args.instr.now ≡ i → is_reference i ≡ true
    references_alone (instr.Block x) is = absurd (c.in_default.not-Block x is)
    references_alone (instr.Loop x) is = absurd (c.in_default.not-Loop x is)
    references_alone (instr.IfElse x) is = absurd (c.in_default.not-IfElse x is)
    references_alone (instr.TryTable x) is = absurd (c.in_default.not-TryTable x is)
    references_alone (instr.Try x) is = absurd (c.in_default.not-Try x is)
    references_alone (instr.Br x) is = absurd (c.in_default.not-Br x is)
    references_alone (instr.BrIf x) is = absurd (c.in_default.not-BrIf x is)
    references_alone (instr.BrTable x) is = absurd (c.in_default.not-BrTable x is)
    references_alone instr.Return is = absurd (c.in_default.not-Return is)
    references_alone instr.Unreachable is = absurd (c.in_default.not-Unreachable is)
    references_alone (instr.Throw x) is = absurd (c.in_default.not-Throw x is)
    references_alone instr.ThrowRef is = absurd (c.in_default.not-ThrowRef is)
    references_alone (instr.Rethrow x) is = absurd (c.in_default.not-Rethrow x is)
    references_alone (instr.Call x) is = absurd (c.in_default.not-Call x is)
    references_alone (instr.CallIndirect x) is = absurd (c.in_default.not-CallIndirect x is)
    references_alone (instr.CallRef x) is = absurd (c.in_default.not-CallRef x is)
    references_alone (instr.ReturnCall x) is = absurd (c.in_default.not-ReturnCall x is)
    references_alone (instr.ReturnCallIndirect x) is = absurd (c.in_default.not-ReturnCallIndirect x is)
    references_alone (instr.ReturnCallRef x) is = absurd (c.in_default.not-ReturnCallRef x is)
    references_alone instr.Drop is = absurd (c.in_default.not-Drop is)
    references_alone (instr.Select x) is = absurd (c.in_default.not-Select x is)
    references_alone (instr.Const x) is = absurd (c.in_default.not-Const x is)
    references_alone (instr.Unop x) is = absurd (c.in_default.not-Unop x is)
    references_alone (instr.Binop x) is = absurd (c.in_default.not-Binop x is)
    references_alone (instr.TernOp x) is = absurd (c.in_default.not-TernOp x is)
    references_alone (instr.LocalGet x) is = absurd (c.in_default.not-LocalGet x is)
    references_alone (instr.LocalSet x) is = absurd (c.in_default.not-LocalSet x is)
    references_alone (instr.LocalTee x) is = absurd (c.in_default.not-LocalTee x is)
    references_alone (instr.GlobalGet x) is = absurd (c.in_default.not-GlobalGet x is)
    references_alone (instr.GlobalSet x) is = absurd (c.in_default.not-GlobalSet x is)
    references_alone (instr.Load x) is = absurd (c.in_default.not-Load x is)
    references_alone (instr.Store x) is = absurd (c.in_default.not-Store x is)
    references_alone (instr.LoadSimd x) is = absurd (c.in_default.not-LoadSimd x is)
    references_alone (instr.AtomicRmw x) is = absurd (c.in_default.not-AtomicRmw x is)
    references_alone (instr.Cmpxchg x) is = absurd (c.in_default.not-Cmpxchg x is)
    references_alone (instr.AtomicNotify x) is = absurd (c.in_default.not-AtomicNotify x is)
    references_alone (instr.AtomicWait x) is = absurd (c.in_default.not-AtomicWait x is)
    references_alone instr.AtomicFence is = absurd (c.in_default.not-AtomicFence is)
    references_alone (instr.MemorySize x) is = absurd (c.in_default.not-MemorySize x is)
    references_alone (instr.MemoryGrow x) is = absurd (c.in_default.not-MemoryGrow x is)
    references_alone (instr.MemoryFill x) is = absurd (c.in_default.not-MemoryFill x is)
    references_alone (instr.MemoryInit x) is = absurd (c.in_default.not-MemoryInit x is)
    references_alone (instr.MemoryCopy x) is = absurd (c.in_default.not-MemoryCopy x is)
    references_alone (instr.DataDrop x) is = absurd (c.in_default.not-DataDrop x is)
    references_alone (instr.TableGet x) is = absurd (c.in_default.not-TableGet x is)
    references_alone (instr.TableSet x) is = absurd (c.in_default.not-TableSet x is)
    references_alone (instr.TableGrow x) is = absurd (c.in_default.not-TableGrow x is)
    references_alone (instr.TableSize x) is = absurd (c.in_default.not-TableSize x is)
    references_alone (instr.TableFill x) is = absurd (c.in_default.not-TableFill x is)
    references_alone (instr.TableInit x) is = absurd (c.in_default.not-TableInit x is)
    references_alone (instr.TableCopy x) is = absurd (c.in_default.not-TableCopy x is)
    references_alone (instr.ElemDrop x) is = absurd (c.in_default.not-ElemDrop x is)
    references_alone (instr.I8x16Shuffle x) is = absurd (c.in_default.not-I8x16Shuffle x is)
    references_alone instr.I8x16Swizzle is = absurd (c.in_default.not-I8x16Swizzle is)
    references_alone instr.V128Bitselect is = absurd (c.in_default.not-V128Bitselect is)
    references_alone instr.I64Add128 is = absurd (c.in_default.not-I64Add128 is)
    references_alone instr.I64Sub128 is = absurd (c.in_default.not-I64Sub128 is)
    references_alone instr.I64MulWideS is = absurd (c.in_default.not-I64MulWideS is)
    references_alone instr.I64MulWideU is = absurd (c.in_default.not-I64MulWideU is)
    references_alone _ is = refl

pub returns-in-Ok-reference_operator-clause-operator : goal.returns-in-Ok-reference_operator-clause-operator
returns-in-Ok-reference_operator-clause-operator c = (c.in-Ok-reference_operator.ensures.operator c.args.ty, c.in-Ok-reference_operator.ensures.writable)

pub returns-in-Err-reference_operator-clause-operator : goal.returns-in-Err-reference_operator-clause-operator
returns-in-Err-reference_operator-clause-operator c = inr (c.in-Err-reference_operator.ensures.operator c.args.ty)
