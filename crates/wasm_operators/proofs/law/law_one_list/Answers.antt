use Rattle.wasm_operators.proofs.ListLaws.{lists_agree, one_list}
use Rattle.wasm_operators.proofs.law.law_one_list.Goals as goal

pub returns-clause-fronts : goal.returns-clause-fronts
returns-clause-fronts c = lists_agree

pub returns-clause-whole : goal.returns-clause-whole
returns-clause-whole c = one_list
