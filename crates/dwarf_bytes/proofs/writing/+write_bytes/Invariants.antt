use Rattle.dwarf_bytes.proofs.writing.+write_bytes.Given as goal

abbrev pub decreases-write_bytes : goal.decreases-write_bytes
decreases-write_bytes l = l.count
