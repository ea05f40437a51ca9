use Rattle.std.proofs.Common.{◌≡◌, List, [], ◌++◌, take, drop, ap, subst, refl, ◌∙◌, append_assoc}
use Rattle.std.proofs.lemmas.List.{take-append-drop}
use Rattle.walrus_emit_state.specs.Emission.{Output}
use Rattle.wasm_body.specs.Pairs.{Pair}
use Rattle.wasm_module.proofs.keeping_pairs.give_pairs.Goals as goal

pub left-init : goal.left-init
left-init g c = λ ps h e. ([], ps, refl, c.new-unpacker.ensures ps h e, g.met.S.ByteSink.nothing c.args.sink.now)

pub left-preserved : goal.left-preserved
left-preserved g c = λ ps h e.
    let so = c.left.invariant ps h e in
    let given = so.0 in
    let rest = so.1 in
    let unpacked = c.in_ok-unpack_some.ensures in
    let takes = g.S.ByteSink.takes in
    let first : Output = record { bytes = []; pairs = given } in
    let second : Output = record { bytes = []; pairs = take 4096 rest } in
    let some : c.unpack_some.new.pairs.items ≡ take 4096 rest = unpacked.some rest so.3 in
    let none : c.clear.new.self.items ≡ [] = c.clear.ensures.items in
    let one : Output = record { bytes = c.clear.new.self.items; pairs = c.unpack_some.new.pairs.items } in
    let same : one ≡ second = λ i. record { bytes = none i; pairs = some i } in
    let took : takes c.left.sink c.take.new.self one = c.if-not-take.ensures.taken in (
      given ++ take 4096 rest,
      drop 4096 rest,
      append_assoc given (take 4096 rest) (drop 4096 rest) ∙ ap (λ (l : List Pair). given ++ l) (take-append-drop 4096 rest) ∙ so.2,
      unpacked.others rest so.3,
      g.met.S.ByteSink.one_by_one c.args.sink.now c.left.sink c.take.new.self first second so.4 (subst (λ (o : Output). takes c.left.sink c.take.new.self o) same took),
    )
