-- What reads a number takes at least one byte.
use Rattle.std.proofs.Common.{arith}
use Rattle.dwarf_bytes.proofs.Shorter.{sized_shorter}
use Rattle.dwarf_bytes.proofs.cursor.Cursor.sized.Goals as goal

pub returns-clause-shorter : goal.returns-clause-shorter
returns-clause-shorter c = sized_shorter c.args.size c.args.self.now.rest.now c.in_ok-number.number c.in_ok-number.rest.now c.in_ok-number.ensures

pub returns-clause-no_longer : goal.returns-clause-no_longer
returns-clause-no_longer c = let less = sized_shorter c.args.size c.args.self.now.rest.now c.in_ok-number.number c.in_ok-number.rest.now c.in_ok-number.ensures in omega arith
