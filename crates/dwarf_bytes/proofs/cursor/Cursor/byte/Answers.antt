-- What reads a number takes at least one byte.
use Rattle.std.proofs.Common.{arith}
use Rattle.dwarf_bytes.specs.declared.size.Size.TheVariants.{One}
use Rattle.dwarf_bytes.proofs.Shorter.{sized_shorter}
use Rattle.dwarf_bytes.proofs.cursor.Cursor.byte.Goals as goal

pub returns-clause-shorter : goal.returns-clause-shorter
returns-clause-shorter c = let less = sized_shorter One c.args.self.now.rest.now c.in_ok-byte.byte c.in_ok-byte.rest.now c.in_ok-byte.ensures in omega arith
