use Rattle.std.proofs.Common.{inl, inr, refl, rules}
use Rattle.wasm_sections.specs.CodeSections.{body_at}
use Rattle.wasm_module.specs.KeptCode.{IsKeptWith}
use Rattle.wasm_module.proofs.KeptLemmas.{on_then}
use Rattle.wasm_module.proofs.ModuleLemmas.{extends_same}
use Rattle.wasm_module.proofs.keeping_pairs.KeptWithPairsBodyWriter.write_body.Goals as goal

pub returns-in-Ok-true-clause-extends : goal.returns-in-Ok-true-clause-extends
returns-in-Ok-true-clause-extends g c = extends_same c.args.parsed.now

pub returns-in-Ok-true-clause-written : goal.returns-in-Ok-true-clause-written
returns-in-Ok-true-clause-written g c = λ source e.
    let kept : IsKeptWith c.args.self.now.kept source c.args.body.func (body_at c.args.body) c.put.new.scratch.raw.items c.put.new.scratch.pairs.items = search rules in
    (c.put.new.scratch.pairs.items, inl kept, λ wanted. refl)

pub returns-in-Ok-false-clause-written : goal.returns-in-Ok-false-clause-written
returns-in-Ok-false-clause-written g c = λ source e.
    on_then c.write_body.result _ _ (λ made. (made.0, inr made.1, made.2)) (c.write_body.ensures.written source e)
