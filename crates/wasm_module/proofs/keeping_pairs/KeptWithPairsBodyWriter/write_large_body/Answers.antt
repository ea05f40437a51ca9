use Rattle.std.proofs.Common.{ℕ, List, inl, inr, sym, subst}
use Rattle.wasm_sections.specs.CodeSections.{body_at}
use Rattle.wasm_module.specs.KeptCode.{IsKeptWith}
use Rattle.wasm_module.proofs.KeptLemmas.{on_then}
use Rattle.wasm_module.proofs.ModuleLemmas.{extends_same, then_ok}
use Rattle.wasm_module.proofs.keeping_pairs.KeptWithPairsBodyWriter.write_large_body.Goals as goal

pub returns-in-Some-clause-extends : goal.returns-in-Some-clause-extends
returns-in-Some-clause-extends g c = then_ok c.give_kept.result (extends_same c.args.parsed.now)

pub returns-in-Some-clause-written : goal.returns-in-Some-clause-written
returns-in-Some-clause-written g c = λ source e.
    let kept = c.in-Some.ensures source in
    on_then c.give_kept.result _ _
    (λ made. (
      made.0,
      kept.0,
      inl (subst (λ (l : List ℕ). IsKeptWith c.args.self.now.kept source c.args.body.func (body_at c.args.body) l kept.0) (sym made.1) kept.3),
      made.2,
      made.3,
    ))
    (c.give_kept.ensures kept.0 kept.1 kept.2)

pub returns-in-None-clause-written : goal.returns-in-None-clause-written
returns-in-None-clause-written g c = λ source e.
    on_then c.write_large_body.result _ _ (λ made. (made.0, made.1, inr made.2, made.3, made.4)) (c.write_large_body.ensures.written source e)
