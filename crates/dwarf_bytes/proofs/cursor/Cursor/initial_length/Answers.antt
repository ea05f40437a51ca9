-- What reads a number takes at least one byte.
use Rattle.dwarf_bytes.proofs.Shorter.{initial_shorter}
use Rattle.dwarf_bytes.proofs.cursor.Cursor.initial_length.Goals as goal

pub returns-clause-shorter : goal.returns-clause-shorter
returns-clause-shorter c = initial_shorter c.args.self.now.rest.now c.in_ok-length.length c.in_ok-length.rest.now c.in_ok-length.ensures
