-- The handlers of the last clauses are to come.
use Rattle.std.proofs.Common.{length}
use Rattle.walrus_facts.proofs.Scans.{HandlersRemain}
use Rattle.walrus_facts.proofs.scanning.Scan.scan_clauses.Given as goal

abbrev pub invariant-clauses : goal.invariant-clauses
invariant-clauses l = HandlersRemain l.fn.clauses l.left l.fn.self l.self

abbrev pub decreases-clauses : goal.decreases-clauses
decreases-clauses l = length l.left
