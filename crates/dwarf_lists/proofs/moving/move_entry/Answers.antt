use Rattle.dwarf_lists.proofs.moving.move_entry.Goals as goal

pub returns-in-Base-clause-moved : goal.returns-in-Base-clause-moved
returns-in-Base-clause-moved c = rw c.in-Base.is c.move_base.ensures.moved

pub returns-in-Range-clause-moved : goal.returns-in-Range-clause-moved
returns-in-Range-clause-moved c = rw c.in-Range.is c.move_range.ensures.moved

pub returns-in-Base-clause-refused : goal.returns-in-Base-clause-refused
returns-in-Base-clause-refused c = rw c.in-Base.is c.move_base.ensures.refused

pub returns-in-Range-clause-refused : goal.returns-in-Range-clause-refused
returns-in-Range-clause-refused c = rw c.in-Range.is c.move_range.ensures.refused
