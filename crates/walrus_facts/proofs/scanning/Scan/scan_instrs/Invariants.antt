-- The last instructions are added.
use Rattle.std.proofs.Common.{length}
use Rattle.walrus_facts.proofs.Scans.{Remains}
use Rattle.walrus_facts.proofs.scanning.Scan.scan_instrs.Given as goal

abbrev pub invariant-left : goal.invariant-left
invariant-left l = Remains l.fn.instrs l.left l.fn.self l.self

abbrev pub decreases-left : goal.decreases-left
decreases-left l = length l.left
