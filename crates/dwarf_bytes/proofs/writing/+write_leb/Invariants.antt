use Rattle.dwarf_bytes.proofs.writing.+write_leb.Given as goal

abbrev pub decreases-write_leb : goal.decreases-write_leb
decreases-write_leb l = l.more
