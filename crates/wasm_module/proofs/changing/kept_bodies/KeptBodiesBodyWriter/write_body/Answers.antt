use Rattle.std.proofs.Common.{◌≡◌, true, List, rules}
use Rattle.wasm_body.specs.Pairs.{Pair}
use Rattle.wasm_sections.specs.CodeSections.{body_at}
use Rattle.wasm_module.specs.KeptCode.{IsKeptWith}
use Rattle.wasm_module.specs.WantedPairs.{wants_pairs}
use Rattle.wasm_module.proofs.ModuleLemmas.{extends_same}
use Rattle.wasm_module.proofs.changing.kept_bodies.KeptBodiesBodyWriter.write_body.Goals as goal

pub returns-in-true-clause-extends : goal.returns-in-true-clause-extends
returns-in-true-clause-extends c = extends_same c.args.parsed.now

pub returns-in-true-clause-written : goal.returns-in-true-clause-written
returns-in-true-clause-written c = λ source e.
    let scratch = c.put_needed.new.scratch in
    let kept : (pairs : List Pair) × IsKeptWith c.args.self.now source c.args.body.func (body_at c.args.body) scratch.raw.items pairs × (wants_pairs c.args.needed ≡ true → scratch.pairs.items ≡ pairs) =
    search rules in
    kept
