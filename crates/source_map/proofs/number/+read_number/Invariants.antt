use Rattle.source_map.proofs.number.+read_number.Given as goal

abbrev pub decreases-read_number : goal.decreases-read_number
decreases-read_number l = l.most
