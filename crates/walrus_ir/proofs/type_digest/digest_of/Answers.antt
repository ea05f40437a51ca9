use Rattle.std.proofs.Common.{take_all, rules}
use Rattle.std.proofs.lemmas.List.Sums.{fold_more}
use Rattle.walrus_ir.proofs.type_digest.digest_of.Goals as goal

pub types-preserved : goal.types-preserved
types-preserved c = search (rules, fold_more)

pub returns : goal.returns
returns c = search (rules, take_all)
