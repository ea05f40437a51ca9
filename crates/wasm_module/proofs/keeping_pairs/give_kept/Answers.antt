use Rattle.std.proofs.Common.{[], refl}
use Rattle.std.proofs.lemmas.List.{append-nil}
use Rattle.walrus_emit_state.specs.Emission.{Output}
use Rattle.walrus_flat.specs.Sinks.{joined_outputs}
use Rattle.wasm_module.proofs.KeptLemmas.{on_then}
use Rattle.wasm_module.proofs.keeping_pairs.give_kept.Goals as goal

pub returns : goal.returns
returns g c = λ ps h e.
    let first : Output = record { bytes = []; pairs = ps } in
    let second : Output = record { bytes = c.args.kept.raw.now; pairs = [] } in
    on_then c.give_in_pieces-2.result _ _
    (λ took. (
      joined_outputs first second,
      refl,
      λ needed. append-nil ps,
      g.met.S.ByteSink.one_by_one c.args.sink.now c.give_pairs.new.sink c.give_in_pieces-2.new.sink first second (c.in_ok-give_pairs.ensures ps h e) took,
    ))
    c.give_in_pieces-2.ensures
