-- The operators of a body as a source.
use Rattle.std.proofs.lemmas.List.{length-drop}
use Rattle.std.proofs.Common.{◌≡◌, ◌≤◌, ◌<◌, ◌+◌, ◌^◌, ℕ, length, sym, ap, subst, arith}
use Rattle.std.specs.Borrow.{Bor}
use Rattle.walrus_validators.specs.Locating.{MayCall}
use Rattle.walrus_parser.specs.declared.body.FunctionBody.{FunctionBody}
use Rattle.walrus_parser.specs.declared.body_source.BodySource.{BodySource}
use Rattle.walrus_parser.specs.Bodies.{body_operators}
use Rattle.walrus_parser.specs.BodySources.{IsReadable}

-- The places of the operators are some of those of the body.
pub readable : {F : Type 0} (pre : F → Bor ℕ → Type 0) (s : BodySource F) (body : FunctionBody) → s.start ≡ body.start + body.ops → s.ops.now ≡ body_operators body → body.ops ≤ length body.bytes.now
    → s.module.now.code_section_offset ≤ body.start → body.start + length body.bytes.now < 2 ^ 64 → MayCall pre s.on_instr_pos (body.start + body.ops) (body.start + length body.bytes.now) → IsReadable pre s
readable pre s body start ops within offset fits may_call =
    let ends : body.start + length body.bytes.now ≡ s.start + length s.ops.now = omega (arith, start, within, length-drop body.ops body.bytes.now, ap length ops) in
    record {
      offset = omega (arith, start, offset);
      fits = subst (λ n. n < 2 ^ 64) ends fits;
      may_call = subst (λ n. MayCall pre s.on_instr_pos s.start n) ends (subst (λ n. MayCall pre s.on_instr_pos n (body.start + length body.bytes.now)) (sym start) may_call);
    }
