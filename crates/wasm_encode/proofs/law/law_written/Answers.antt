use Rattle.wasm_operators.proofs.Written.{written}
use Rattle.wasm_encode.proofs.law.law_written.Goals as goal

pub returns : goal.returns
returns c = written c.args.op.now c.law_numbers.ensures
