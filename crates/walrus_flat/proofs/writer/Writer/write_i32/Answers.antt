use mir.Syntax.{w64}
use mir.Val.{SFits}
use Rattle.std.proofs.Common.{◌≡◌, ◌∷◌, refl, ap, ◌∙◌, rules}
use Rattle.std.proofs.lemmas.Int.{to_z-of_z}
use Rattle.wasm_operators.specs.Operations.{i32}
use Rattle.wasm_operators.specs.Shortest.{short_integer}
use Rattle.walrus_emit_state.specs.TreeWriting.Drafts.{with_bytes}
use Rattle.walrus_emitter.proofs.TreeWriting.Spelled.{on_true}
use Rattle.walrus_flat.proofs.WriterAtOnce.{constant_written}
use Rattle.walrus_flat.proofs.writer.Writer.write_i32.Goals as goal

pub returns : goal.returns
returns c =
    let old = c.args.self.now in
    let same : c.from-wide.result ≡ c.args.value = search rules in
    let fits : SFits w64 c.from-wide.result = search rules in
    let put = c.write_integer in
    constant_written old c.args.location 0x41 (i32 c.args.value) refl put.result put.new.self
    (on_true put.result (λ k. k ∙ ap (λ z. with_bytes old.draft (0x41 ∷ short_integer z) c.args.location) (to_z-of_z w64 c.from-wide.result fits ∙ same)) put.ensures.done)
    put.ensures.unchanged
