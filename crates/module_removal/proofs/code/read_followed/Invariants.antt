use Rattle.std.proofs.Common.{◌≡◌}
use Rattle.module_removal.proofs.code.read_followed.Given as goal

abbrev pub invariant-sections : goal.invariant-sections
invariant-sections l = l.code ≡ record l.fn.code { operators = l.code.operators; locals = l.code.locals }
