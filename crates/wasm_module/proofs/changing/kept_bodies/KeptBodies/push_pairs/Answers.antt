use Rattle.wasm_module.proofs.KeptPairLemmas.{packs_longer}
use Rattle.wasm_module.proofs.changing.kept_bodies.KeptBodies.push_pairs.Goals as goal

pub invariant_of-self : goal.invariant_of-self
invariant_of-self c =
    let old = c.args.self.now in
    record { within = old.within; packs = packs_longer old.pairs.items c.add.new.packed.items old.bodies.items c.add.ensures.unchanged old.packs }
