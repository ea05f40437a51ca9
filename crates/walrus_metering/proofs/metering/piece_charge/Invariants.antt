-- What was added up, with what is left of the piece, is its charge.
use Rattle.std.proofs.Common.{◌≡◌, ◌≤◌, ◌+◌, length}
use Rattle.walrus_metering.specs.MeteredInstructions.{cost_from, max_charge, charged_for}
use Rattle.walrus_metering.proofs.metering.piece_charge.Given as goal

abbrev pub invariant-piece : goal.invariant-piece
invariant-piece l = record {
  same : charged_for (l.sum + cost_from l.fn.costs l.left) ≡ charged_for (cost_from l.fn.costs l.fn.instrs);
  small : l.sum ≤ max_charge;
}

abbrev pub decreases-piece : goal.decreases-piece
decreases-piece l = length l.left
