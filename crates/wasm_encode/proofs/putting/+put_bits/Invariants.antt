use Rattle.wasm_encode.proofs.putting.+put_bits.Given as goal

abbrev pub decreases-put_bits : goal.decreases-put_bits
decreases-put_bits l = l.count
