use Rattle.code_moves.proofs.BodyLaws.{address_until, address_past, until_again, past_again}
use Rattle.code_moves.proofs.laws.law_ranges.Goals as goal

pub returns : goal.returns
returns c = λ bs low high old own ordered of_low of_high written. (
  λ inside. (address_until 0 0 bs ordered low old own of_low written inside.0, address_past 0 0 bs ordered high old own of_high written inside.1),
  λ inside. (until_again bs ordered low old own of_low written inside.0, past_again bs ordered high old own of_high written inside.1),
)
