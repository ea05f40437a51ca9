use Rattle.wasm_numbers.proofs.number.+read_bits.Given as goal

abbrev pub decreases-read_bits : goal.decreases-read_bits
decreases-read_bits l = l.count
