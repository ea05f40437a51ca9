use Rattle.std.proofs.Common.{drop}
use Rattle.std.specs.Prelude.{◌↔◌}
use Rattle.code_moves.specs.Order.{AreLocals}
use Rattle.code_moves.proofs.body.are_locals.Given as goal

-- the locals are in order exactly if those that are left are, from this index on
abbrev pub invariant-loop-step : goal.invariant-loop-step
invariant-loop-step l = AreLocals l.parameters l.locals ↔ AreLocals l.least (drop l.step-index l.locals)
