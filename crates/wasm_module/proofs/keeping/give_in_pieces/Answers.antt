use Rattle.std.proofs.Common.{◌≡◌, ℕ, List, [], ◌++◌, length, ap, sym, subst, refl, ◌∙◌, append_assoc, rules}
use Rattle.std.proofs.lemmas.List.{append-nil, nil_from_length, take-append-drop}
use Rattle.walrus_emit_state.specs.Emission.{Output}
use Rattle.wasm_module.proofs.keeping.give_in_pieces.Goals as goal

pub left-init : goal.left-init
left-init g c = ([], refl, g.met.S.ByteSink.nothing c.args.sink.now)

pub left-preserved : goal.left-preserved
left-preserved g c =
    let so = c.left.invariant in
    let left = c.left.left.now in
    let piece = c.split_at.result.0.now in
    let following = c.split_at.result.1.now in
    let front : Output = record { bytes = so.0; pairs = [] } in
    let one : Output = record { bytes = piece; pairs = [] } in
    let cut : piece ++ following ≡ left = (λ i. c.split_at.ensures.front i ++ c.split_at.ensures.back i) ∙ take-append-drop c.min.result left in (
      so.0 ++ piece,
      append_assoc so.0 piece following ∙ ap (λ (l : List ℕ). so.0 ++ l) cut ∙ so.1,
      g.met.S.ByteSink.one_by_one c.args.sink.now c.left.sink c.give.new.sink front one so.2 c.in_ok-give.ensures,
    )

pub returns : goal.returns
returns g c =
    let so = c.left.invariant in
    let len : length c.left.left.now ≡ 0 = search rules in
    let none = nil_from_length c.left.left.now len in
    let all : so.0 ≡ c.args.bytes.now = sym (append-nil so.0) ∙ ap (λ (l : List ℕ). so.0 ++ l) (sym none) ∙ so.1 in
    subst (λ (l : List ℕ). g.S.ByteSink.takes c.args.sink.now c.left.sink (record { bytes = l; pairs = [] })) all so.2
