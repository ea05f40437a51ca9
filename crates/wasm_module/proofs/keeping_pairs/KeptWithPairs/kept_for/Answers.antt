use Rattle.std.proofs.Common.{◌≢◌, [], rules}
use Rattle.wasm_module.proofs.KeptPairLemmas.{pairs_in}
use Rattle.wasm_module.proofs.keeping_pairs.KeptWithPairs.kept_for.Goals as goal

pub returns : goal.returns
returns g c = λ source.
    let kept = c.in_ok-kept.kept in
    let pack = c.in_ok-kept.ensures.pack source in
    let some : kept.pairs.now ≢ [] = search rules in
    let pairs = pairs_in kept.pairs.now some pack.1 in
    (pairs.0, pairs.1, pairs.2, pack.0 pairs.0 pairs.1 pairs.2)
