use Rattle.std.proofs.Common.{◌≡◌, [], ◌∷◌, ◌++◌, length, ap, ◌∙◌, rules, arith}
use Rattle.location_pairs.specs.PackedPairs.{packed_pairs}
use Rattle.wasm_module.proofs.KeptLemmas.{on_then}
use Rattle.wasm_module.proofs.KeptPairLemmas.{packs_longer, packs_stay, last_part}
use Rattle.wasm_module.proofs.changing.kept_bodies.KeptBodies.keep.Goals as goal

pub invariant_of-self : goal.invariant_of-self
invariant_of-self c =
    let old = c.args.self.now in
    record { within = old.within; packs = packs_longer old.pairs.items c.pack.new.packed.items old.bodies.items c.pack.ensures.unchanged old.packs }

pub returns-clause-packs : goal.returns-clause-packs
returns-clause-packs c =
    let old = c.args.self.now in
    let longer = c.pack.new.packed.items in
    let ps = c.args.scratch.now.pairs.items in
    let long : longer ≡ old.pairs.items ++ packed_pairs ps = c.in_ok-pack.ensures.packed ∙ ap (λ l. old.pairs.items ++ packed_pairs l) c.deref.ensures.value in
    let from : c.len-from.result ≡ length old.pairs.items = search (arith, rules) in
    let to : c.len-to.result ≡ length longer = search (arith, rules) in
    let last = last_part old.pairs.items (packed_pairs ps) longer c.len-from.result c.len-to.result long from to in
    on_then c.keep_raw.result _ _ (λ e. e ∙ (λ i. packs_stay old.pairs.items longer old.bodies.items c.pack.ensures.unchanged old.packs i ++ last i ∷ [])) c.keep_raw.ensures.packs
