use Rattle.std.proofs.Common.{length}
use Rattle.walrus_flat.proofs.CheckedLoop.{SoFar}
use Rattle.walrus_flat.proofs.check_body.check_operators.Given as goal

abbrev pub invariant-loop-limit : goal.invariant-loop-limit
invariant-loop-limit g l =
    SoFar l.fn.reader.place g.V.OpCheck.check (g.V.OpCheck.state l.fn.validator) l.limit.has_limit l.fn.reader.rest l.fn.checker
    l.checker (g.V.OpCheck.state l.validator) l.reader.place l.reader.rest

abbrev pub decreases-loop-limit : goal.decreases-loop-limit
decreases-loop-limit g l = length l.reader.rest
