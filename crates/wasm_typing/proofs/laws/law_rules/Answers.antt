use Rattle.wasm_typing.proofs.Coverage.{plain_have_rules, conditionals_have_rules, tail_calls_have_rules}
use Rattle.wasm_typing.proofs.laws.law_rules.Goals as goal

pub returns : goal.returns
returns c = record { plain = plain_have_rules; conditionals = conditionals_have_rules; tail_calls = tail_calls_have_rules }
