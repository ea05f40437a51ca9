use Rattle.wasm_encode.proofs.number.+write_bits.Given as goal

abbrev pub decreases-write_bits : goal.decreases-write_bits
decreases-write_bits l = l.count
