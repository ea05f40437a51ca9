use Rattle.wasm_numbers.proofs.number.+read_signed.Given as goal

abbrev pub decreases-read_signed : goal.decreases-read_signed
decreases-read_signed l = l.bits
