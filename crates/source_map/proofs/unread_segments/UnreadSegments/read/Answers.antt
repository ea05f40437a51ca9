use Rattle.source_map.proofs.Loops.{none_read, one_read, one_refused}
use Rattle.source_map.proofs.unread_segments.UnreadSegments.read.Goals as goal

pub returns-in_default-clause-read : goal.returns-in_default-clause-read
returns-in_default-clause-read c = rw c.in_default.is (none_read c.args.self.now.fields)

pub returns-in-Ok-clause-read : goal.returns-in-Ok-clause-read
returns-in-Ok-clause-read c = rw (c.in-Some.is, c.first_segment.ensures.parts, c.after-self.ensures) (one_read c.args.self.now.fields _ _ c.in-Ok.mapping c.in-Ok.ensures)

pub returns-in-Err-clause-refused : goal.returns-in-Err-clause-refused
returns-in-Err-clause-refused c = rw (c.in-Some.is, c.first_segment.ensures.parts) (one_refused c.args.self.now.fields _ _ c.in-Err.fault c.in-Err.ensures)
