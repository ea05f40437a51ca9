use Rattle.std.proofs.Common.{ap, subst, ◌∙◌}
use Rattle.wasm_module.specs.KeptCode.{IsKeptWith}
use Rattle.module_tools.proofs.running.rewritten_with_pairs.Goals as goal

pub returns-in-Ok-clause-pairs : goal.returns-in-Ok-clause-pairs
returns-in-Ok-clause-pairs g c = λ source x function b raw pairs k.
    let around = ap (λ bodies. bodies.bodies.kept) c.with_bodies-in-Ok.ensures.bodies ∙ ap (λ bodies. bodies.kept) c.new.ensures in
    let inside = c.with_pairs-bodies.ensures.kept ∙ (c.with_bodies.ensures.kept ∙ ap (λ bodies. bodies.kept) c.take_bodies-bodies.ensures.bodies) in
    c.in-Ok.ensures.pairs source x function b raw pairs (subst (λ kept. IsKeptWith kept source function b raw pairs) (around ∙ inside) k)
