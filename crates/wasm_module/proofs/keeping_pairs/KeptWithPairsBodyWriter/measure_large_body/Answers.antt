use Rattle.std.proofs.Common.{inl, inr, refl}
use Rattle.wasm_module.proofs.ModuleLemmas.{extends_same}
use Rattle.wasm_module.proofs.WritingLemmas.{if_so}
use Rattle.wasm_module.proofs.keeping_pairs.KeptWithPairsBodyWriter.measure_large_body.Goals as goal

pub returns-in-Some-clause-extends : goal.returns-in-Some-clause-extends
returns-in-Some-clause-extends g c = extends_same c.args.parsed.now

pub returns-in-Some-clause-measured : goal.returns-in-Some-clause-measured
returns-in-Some-clause-measured g c = λ source e.
    let kept = c.in-Some.ensures source in
    (c.in-Some.kept.raw.now, kept.0, inl kept.3, refl)

pub returns-in-None-clause-measured : goal.returns-in-None-clause-measured
returns-in-None-clause-measured g c = λ source e.
    if_so c.measure_large_body.result (c.measure_large_body.ensures.measured source e) (λ measured h. (h.0, h.1, inr h.2, h.3))
