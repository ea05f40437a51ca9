use Rattle.std.proofs.Common.{length}
use Rattle.walrus_flat.specs.Writers.{env_at}
use Rattle.walrus_flat.specs.WrittenBody.{again}
use Rattle.walrus_flat.proofs.WrittenLoop.{WritesSoFar}
use Rattle.walrus_flat.proofs.write_body.write_operators.Given as goal

abbrev pub invariant-loop-writer : goal.invariant-loop-writer
invariant-loop-writer g l =
    WritesSoFar g.F.Fn (again (env_at l.fn.writer l.fn.writer.ty) l.fn.reader l.fn.writer.«module».now.code_section_offset l.fn.on_instr_pos) l.fn.writer g.S.ByteSink.takes l.fn.sink l.writer l.sink l.reader.place l.reader.rest

abbrev pub decreases-loop-writer : goal.decreases-loop-writer
decreases-loop-writer g l = length l.reader.rest
