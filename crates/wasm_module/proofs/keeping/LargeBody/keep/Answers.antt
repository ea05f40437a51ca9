use Rattle.std.proofs.Common.{◌≡◌, ◌++◌, sym, ◌∙◌, rules}
use Rattle.wasm_module.proofs.KeptPieceLemmas.{bytes_taken}
use Rattle.wasm_module.proofs.keeping.LargeBody.keep.Goals as goal

pub returns-in-Some-clause-takes : goal.returns-in-Some-clause-takes
returns-in-Some-clause-takes c = λ whole. (
  sym c.pack.ensures.is_whole ∙ whole,
  λ was before first taken.
      let old = c.args.self.now in
      let mid = c.push_bytes.new.self in
      let bytes = c.args.bytes.now in
      let all = c.push_bytes.ensures in
      let raws : mid.raws.items ≡ old.kept.raws.items ++ bytes = search rules in
      c.pack.ensures.takes c.if-pack.true was (before ++ bytes) first (bytes_taken was old.kept mid old.from old.packer before first taken all.first all.bodies bytes raws all.pairs),
)
