use Rattle.std.proofs.Common.{ℕ, sym, rules, tests}
use Rattle.std.specs.Prelude.{nat_lt}
use Rattle.std.proofs.lemmas.Iterator.{YieldsList-from_slice}
use Rattle.std.proofs.lemmas.Iterator.Search.{all_from_yields_List}
use Rattle.wasm_validator.proofs.plain.are_lanes.Goals as goal

pub returns : goal.returns
returns c =
    let xs = c.args.indices.now in
    sym (all_from_yields_List (λ (n : ℕ). nat_lt n 32) _ _ c.all.result c.all.ensures.ran (YieldsList-from_slice xs cc) (λ x b q k. search (rules, tests)))
