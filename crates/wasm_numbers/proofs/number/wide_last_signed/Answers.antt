use Rattle.std.proofs.Common.{rules}
use Rattle.wasm_numbers.proofs.ShortNumbers.{last_low, last_high}
use Rattle.wasm_numbers.proofs.number.wide_last_signed.Goals as goal

pub returns-then-byte-lt64-clause-gives : goal.returns-then-byte-lt64-clause-gives
returns-then-byte-lt64-clause-gives c = λ bits wide. let is = last_low bits c.args.byte wide c.if-byte-lt64.true in search (rules, is)

pub returns-else-byte-lt64-clause-gives : goal.returns-else-byte-lt64-clause-gives
returns-else-byte-lt64-clause-gives c = λ bits wide. let is = last_high bits c.args.byte wide c.if-byte-lt64.false in search (rules, is)
