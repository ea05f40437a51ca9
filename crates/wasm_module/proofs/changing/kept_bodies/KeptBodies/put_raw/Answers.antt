use Rattle.std.proofs.Common.{◌≡◌, ◌≢◌, ℕ, List, [], sym, subst, rules}
use Rattle.wasm_sections.specs.CodeSections.{body_at}
use Rattle.wasm_module.specs.KeptCode.{IsKeptWith}
use Rattle.wasm_module.proofs.KeptPairLemmas.{pairs_in}
use Rattle.wasm_module.proofs.changing.kept_bodies.KeptBodies.put_raw.Goals as goal

pub returns : goal.returns
returns c = λ source yes.
    let self = c.args.self.now in
    let b = c.args.body in
    let kept = c.in-Some.kept in
    let pack = c.in-Some.ensures.pack source in
    let some : kept.pairs.now ≢ [] = search rules in
    let found = pairs_in kept.pairs.now some pack.1 in
    let raw : c.extend_from_slice.new.self.items ≡ kept.raw.now = search rules in
    (found.0, subst (λ (l : List ℕ). IsKeptWith self source b.func (body_at b) l found.0) (sym raw) (pack.0 found.0 found.1 found.2))
