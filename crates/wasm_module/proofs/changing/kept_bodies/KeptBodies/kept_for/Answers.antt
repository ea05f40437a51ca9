use Rattle.std.proofs.Common.{◌≡◌, ℕ, List, sym, subst, rules}
use Rattle.wasm_sections.specs.CodeSections.{body_at}
use Rattle.wasm_module.specs.KeptCode.{raw_in, packed_in, IsPackOf}
use Rattle.wasm_module.proofs.changing.kept_bodies.KeptBodies.kept_for.Goals as goal

pub returns-clause-pack : goal.returns-clause-pack
returns-clause-pack c = λ source.
    let self = c.args.self.now in
    let k = c.in_ok-kept.kept in
    let b = c.args.body in
    let raw : c.in_ok-raw.raw.now ≡ raw_in self.raws.items k = search rules in
    let pairs : c.in_ok-pairs.pairs.now ≡ packed_in self.pairs.items k = search rules in
    subst (λ (l : List ℕ). IsPackOf self source b.func (body_at b) l c.in_ok-pairs.pairs.now) (sym raw)
    (subst (λ (l : List ℕ). IsPackOf self source b.func (body_at b) (raw_in self.raws.items k) l) (sym pairs) (c.in_ok-kept.ensures.pack source))
