use Rattle.std.proofs.Common.{◌≡◌, ◌≢◌, ℕ, List, [], sym, subst, rules}
use Rattle.wasm_sections.specs.CodeSections.{body_at}
use Rattle.wasm_module.specs.KeptCode.{IsKeptWith}
use Rattle.wasm_module.proofs.KeptPairLemmas.{unpacked_are}
use Rattle.wasm_module.proofs.changing.kept_bodies.KeptBodies.put_with_pairs.Goals as goal

pub returns : goal.returns
returns c = λ source yes.
    let self = c.args.self.now in
    let b = c.args.body in
    let kept = c.in-Some.kept in
    let pack = c.in-Some.ensures.pack source in
    let pairs = c.unpack.new.pairs.items in
    let some : kept.pairs.now ≢ [] = search rules in
    let same = unpacked_are kept.pairs.now pairs some pack.1 c.in_ok-unpack.ensures.pairs in
    let raw : c.extend_from_slice.new.self.items ≡ kept.raw.now = search rules in
    subst (λ (l : List ℕ). IsKeptWith self source b.func (body_at b) l pairs) (sym raw) (pack.0 pairs c.in_ok-unpack.ensures.fit same)
