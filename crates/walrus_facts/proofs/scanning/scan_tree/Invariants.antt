-- It goes on; each sequence that is reached lowers the bound on the remaining steps.
use Rattle.walrus_ir.proofs.Marks.{unreached}
use Rattle.walrus_facts.specs.Scanning.{IsScanning}
use Rattle.walrus_facts.proofs.scanning.scan_tree.Given as goal

abbrev pub invariant-scan : goal.invariant-scan
invariant-scan l = IsScanning l.builder.sequences l.fn.start l.scan

abbrev pub decreases-scan : goal.decreases-scan
decreases-scan l = unreached l.scan.reached.items l.builder.sequences
