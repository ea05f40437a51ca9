use Rattle.std.proofs.Common.{length}
use Rattle.module_removal.proofs.names.local_names.Given as goal

abbrev pub decreases-subsections : goal.decreases-subsections
decreases-subsections l = length l.contents.rest.now
