use Rattle.std.proofs.Common.{[], inl, inr, refl, rules}
use Rattle.wasm_sections.specs.CodeSections.{body_at}
use Rattle.wasm_module.specs.KeptCode.{IsKept}
use Rattle.wasm_module.proofs.KeptLemmas.{on_then}
use Rattle.wasm_module.proofs.ModuleLemmas.{extends_same, then_ok}
use Rattle.wasm_module.proofs.keeping.KeptBodyWriter.write_large_body.Goals as goal

pub returns-in-Some-clause-extends : goal.returns-in-Some-clause-extends
returns-in-Some-clause-extends g c = then_ok c.give_in_pieces.result (extends_same c.args.parsed.now)

pub returns-in-Some-clause-written : goal.returns-in-Some-clause-written
returns-in-Some-clause-written g c = λ source e.
    let raw = c.in-Some.kept.raw.now in
    let kept : IsKept c.args.self.now.kept source c.args.body.func (body_at c.args.body) raw = search rules in
    on_then c.give_in_pieces.result _ _ (λ took. (record { bytes = raw; pairs = [] }, [], inl kept, λ wanted. refl, took)) c.give_in_pieces.ensures

pub returns-in_default-clause-written : goal.returns-in_default-clause-written
returns-in_default-clause-written g c = λ source e.
    on_then c.write_large_body.result _ _ (λ made. (made.0, made.1, inr made.2, made.3, made.4)) (c.write_large_body.ensures.written source e)
