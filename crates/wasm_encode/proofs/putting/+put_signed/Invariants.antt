use Rattle.wasm_encode.proofs.putting.+put_signed.Given as goal

abbrev pub decreases-put_signed : goal.decreases-put_signed
decreases-put_signed l = l.more
