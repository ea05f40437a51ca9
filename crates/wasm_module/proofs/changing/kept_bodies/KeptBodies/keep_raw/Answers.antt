use Rattle.std.proofs.Common.{◌≡◌, ◌+◌, List, ℕ, [], ◌∷◌, ◌++◌, length, length-append, ap, ◌∙◌, rules, arith}
use Rattle.std.specs.List.{between}
use Rattle.wasm_module.specs.KeptCode.{raws_in}
use Rattle.wasm_module.proofs.KeptLemmas.{raws_stay, raw_last, on_then}
use Rattle.wasm_module.proofs.changing.kept_bodies.KeptBodies.keep_raw.Goals as goal

pub returns-clause-raws : goal.returns-clause-raws
returns-clause-raws c =
    let old = c.args.self.now in
    let mid = c.push_bytes.new.self in
    let raws = old.raws.items in
    let raw = c.args.raw.now in
    let ks = old.bodies.items in
    let long : mid.raws.items ≡ raws ++ raw = search rules in
    let bodies : mid.bodies.items ≡ ks = λ i. (c.push_bytes.ensures.bodies i).items in
    let from : c.len-from.result ≡ length raws = search (arith, rules) in
    let end : c.len-to.result ≡ length mid.raws.items = search (arith, rules) in
    let to : c.len-to.result ≡ length raws + length raw = omega (arith, end, ap length long, length-append raws raw) in
    on_then c.keep_parts.result _ _ (λ e. ap (λ (l : List ℕ). raws_in l c.keep_parts.new.self.bodies.items) (λ i. (c.keep_parts.ensures.raws_stay i).items) ∙ e
    ∙ (λ i. raws_in (long i) (bodies i) ++ between c.len-from.result c.len-to.result (long i) ∷ [])
    ∙ (λ i. raws_stay raws raw ks old.within i ++ raw_last raws raw c.len-from.result c.len-to.result from to i ∷ [])) c.keep_parts.ensures.raws
