use Rattle.std.proofs.Common.{[], inl, inr, refl, rules}
use Rattle.wasm_sections.specs.CodeSections.{body_at}
use Rattle.wasm_module.specs.KeptCode.{IsKept}
use Rattle.wasm_module.proofs.ModuleLemmas.{extends_same}
use Rattle.wasm_module.proofs.WritingLemmas.{if_so}
use Rattle.wasm_module.proofs.keeping.KeptBodyWriter.measure_large_body.Goals as goal

pub returns-in-Some-clause-extends : goal.returns-in-Some-clause-extends
returns-in-Some-clause-extends g c = extends_same c.args.parsed.now

pub returns-in-Some-clause-measured : goal.returns-in-Some-clause-measured
returns-in-Some-clause-measured g c = λ source e.
    let raw = c.in-Some.kept.raw.now in
    let kept : IsKept c.args.self.now.kept source c.args.body.func (body_at c.args.body) raw = search rules in
    (raw, [], inl kept, refl)

pub returns-in-None-clause-measured : goal.returns-in-None-clause-measured
returns-in-None-clause-measured g c = λ source e.
    if_so c.measure_large_body.result (c.measure_large_body.ensures.measured source e) (λ measured h. (h.0, h.1, inr h.2, h.3))
