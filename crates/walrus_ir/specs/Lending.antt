-- A builder that lends a sequence.
use Rattle.std.specs.Prelude.{ℕ}
use Rattle.std.specs.Borrow.{Lends, MutBor, Fml}
use Rattle.walrus_ir.specs.declared.builder.FunctionBuilder.{FunctionBuilder}
use Rattle.walrus_ir.specs.declared.seq.InstrSeq.{InstrSeq}
use Rattle.walrus_ir.specs.contracts.builder.FunctionBuilder.{the_row}
use Rattle.walrus_ir.specs.contracts.seq.InstrSeq.{the_row as sequence_row}
use Rattle.walrus_ir.specs.Function.{with_sequence}

-- at the end of the loan, the builder has the final value of the borrowed sequence at this slot
abbrev pub LendsSequence : MutBor FunctionBuilder → ℕ → MutBor InstrSeq → Fml
LendsSequence b slot seq = Lends the_row sequence_row b seq (with_sequence b.now slot)
