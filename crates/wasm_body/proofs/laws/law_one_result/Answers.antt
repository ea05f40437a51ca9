use Rattle.wasm_operators.proofs.ReadingBytes.{reading_agrees}
use Rattle.wasm_body.proofs.Parsing.ParseResults.{one_body_accepted, accepted_has_no_fault, one_first_fault, accepted_or_fault}
use Rattle.wasm_body.proofs.Parsing.Longest.{longest_front}
use Rattle.wasm_body.proofs.laws.law_one_result.Goals as goal

pub returns : goal.returns
returns g c = record {
  one_body = one_body_accepted reading_agrees _;
  no_fault = accepted_has_no_fault reading_agrees _;
  one_fault = one_first_fault reading_agrees _;
  either = accepted_or_fault reading_agrees _;
  longest = longest_front reading_agrees _;
}
