use Rattle.std.proofs.Common.{◌≡◌, take}
use Rattle.module_removal.proofs.alike.with_ids.Given as goal

abbrev pub invariant-types : goal.invariant-types
invariant-types l = l.made.items ≡ take l.ty-index l.types
