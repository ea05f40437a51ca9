use Rattle.std.proofs.Common.{◌≡◌}
use Rattle.module_removal.specs.LeftParts.{parts_numbered}
use Rattle.module_removal.proofs.followed.Followed.pass_locals.Given as goal

abbrev pub invariant-parts : goal.invariant-parts
invariant-parts l = parts_numbered l.self.parts.items ≡ parts_numbered l.fn.self.parts.items
