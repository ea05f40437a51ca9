use Rattle.std.proofs.Common.{refl}
use Rattle.wasm_module.proofs.RewritingLemmas.{not_wanted}
use Rattle.wasm_module.proofs.WritingLemmas.{if_so}
use Rattle.wasm_module.proofs.changing.kept_bodies.KeptBodies.put_needed.Goals as goal

pub returns-in-Nothing : goal.returns-in-Nothing
returns-in-Nothing c = λ source.
    if_so c.put_raw.result (c.put_raw.ensures source) (λ is_put h yes.
    let kept = h yes in
    (kept.0, kept.1, λ wanted. absurd (not_wanted c.args.needed c.in-Nothing.is wanted)))

pub returns-in-Pairs : goal.returns-in-Pairs
returns-in-Pairs c = λ source.
    if_so c.put_with_pairs.result (c.put_with_pairs.ensures source) (λ is_put h yes. (c.put_with_pairs.new.scratch.pairs.items, h yes, λ wanted. refl))
