-- What contracts see of a function of a module that has a body.
use Rattle.std.specs.Prelude.{◌≡◌, ◌<◌, ℕ, List, [], length, Bool, true, false, Option, Some, None, unwrap_or, slice_get, option_and_then}
use Rattle.std.specs.Borrow.{Lends, MutBor, Fml}
use Rattle.walrus_ir.specs.declared.builder.FunctionBuilder.{FunctionBuilder}
use Rattle.walrus_ir.specs.declared.seq.InstrSeq.{InstrSeq}
use Rattle.walrus_ir.specs.declared.instr.Instr.TheVariants as instr
use Rattle.walrus_ir.specs.contracts.builder.FunctionBuilder.{the_row as builder_row}
use Rattle.walrus_ir.specs.contracts.seq.InstrSeq.{the_row as sequence_row}
use Rattle.walrus_ir.specs.Function.{Function, with_sequence}
use Rattle.walrus_ir.specs.Unfolding.{LocatedInstr}
use Rattle.walrus_body.specs.declared.local_function.LocalFunction.{LocalFunction}
use Rattle.walrus_body.specs.contracts.local_function.LocalFunction.{the_row}

-- the slot of the sequence that the function begins with
abbrev pub first_slot : Function → ℕ
first_slot f = unwrap_or f.entry 0

-- The function has an entry, which is a sequence of its builder.
pub record HasEntry (f : Function) : Type 0 where
  pub is : f.entry ≡ Some (first_slot f)
  pub in_arena : first_slot f < length f.sequences

-- the instructions of the sequence that the function begins with
abbrev pub first_instrs : Function → List LocatedInstr
first_instrs f = instrs_at (option_and_then (slice_get f.sequences) f.entry)
  where
    instrs_at : Option InstrSeq → List LocatedInstr
    instrs_at (Some seq) = seq.instrs
    instrs_at None = []

abbrev pub is_const : LocatedInstr → Bool
is_const (instr.Const x, location) = true
is_const _ = false

-- at the end of the loan, the function has the builder as the borrower leaves it
abbrev pub LendsBuilder : MutBor LocalFunction → MutBor FunctionBuilder → Fml
LendsBuilder f b = Lends the_row builder_row f b (λ left. record f.now { builder = left })

-- at the end of the loan, the function has at this slot the sequence as the borrower leaves it
abbrev pub LendsBlock : MutBor LocalFunction → ℕ → MutBor InstrSeq → Fml
LendsBlock f slot seq = Lends the_row sequence_row f seq (λ left. record f.now { builder = with_sequence f.now.builder slot left })
