use Rattle.std.proofs.Common.{◌≡◌, List, ◌+◌, Some, length, slice_get, refl, subst, arith, rules}
use Rattle.std.proofs.lemmas.Option.{slice_get_read}
use Rattle.wasm_module.specs.declared.changing.kept_bodies.KeptBody.{KeptBody}
use Rattle.wasm_sections.specs.CodeSections.{body_at, body_bytes, place_of}
use Rattle.wasm_module.specs.KeptCode.{kept_source}
use Rattle.wasm_module.proofs.KeptLemmas.{is_kept, same_body}
use Rattle.wasm_module.proofs.KeptPairLemmas.{is_pack_of}
use Rattle.wasm_module.proofs.changing.kept_bodies.KeptBodies.find.Goals as goal

pub returns-clause-kept : goal.returns-clause-kept
returns-clause-kept c = λ source.
    let kept = c.in-Some-get.kept.now in
    let b = c.args.body in
    let at = c.in-Some.at in
    let place : b.func ≡ c.args.self.now.first + at = search (arith, rules) in
    let look = c.in-Some-get.ensures.lookup in
    let all = c.deref.result.now in
    let there : slice_get all at ≡ Some kept = slice_get_read all (length all) at kept refl look.3.0 look.1 in
    let found : slice_get c.args.self.now.bodies.items at ≡ Some kept =
    subst (λ (ks : List KeptBody). slice_get ks at ≡ Some kept) c.deref.ensures.value there in
    let starts : kept.start ≡ place_of b = search rules in
    let bytes : kept.bytes.now ≡ body_bytes b = search rules in
    is_kept c.args.self.now source b.func (body_at b) at kept place found (same_body (kept_source kept) (body_at b) starts bytes)

pub returns-clause-pack : goal.returns-clause-pack
returns-clause-pack c = λ source.
    let kept = c.in-Some-get.kept.now in
    let b = c.args.body in
    let at = c.in-Some.at in
    let place : b.func ≡ c.args.self.now.first + at = search (arith, rules) in
    let look = c.in-Some-get.ensures.lookup in
    let all = c.deref.result.now in
    let there : slice_get all at ≡ Some kept = slice_get_read all (length all) at kept refl look.3.0 look.1 in
    let found : slice_get c.args.self.now.bodies.items at ≡ Some kept =
    subst (λ (ks : List KeptBody). slice_get ks at ≡ Some kept) c.deref.ensures.value there in
    let starts : kept.start ≡ place_of b = search rules in
    let bytes : kept.bytes.now ≡ body_bytes b = search rules in
    is_pack_of c.args.self.now source b.func (body_at b) at kept place found (same_body (kept_source kept) (body_at b) starts bytes)
