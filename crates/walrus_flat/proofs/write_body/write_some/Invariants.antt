use Rattle.std.proofs.Common.{ℕ, length}
use Rattle.walrus_flat.specs.WrittenBody.{WritesNumber}
use Rattle.walrus_flat.proofs.write_body.write_some.Given as goal

abbrev pub invariant-loop-reader : goal.invariant-loop-reader
invariant-loop-reader g l = (n : ℕ) × WritesNumber g.F.Fn l.fn.on_instr_pos n l.fn.reader l.reader l.fn.writer l.writer

abbrev pub decreases-loop-reader : goal.decreases-loop-reader
decreases-loop-reader g l = length l.reader.rest
