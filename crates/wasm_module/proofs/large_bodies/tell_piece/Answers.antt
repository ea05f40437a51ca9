use Rattle.std.proofs.Common.{◌≡◌, true, rules}
use Rattle.wasm_module.proofs.ToldLemmas.{tells_piece}
use Rattle.wasm_module.proofs.WritingLemmas.{ok_so}
use Rattle.wasm_module.proofs.large_bodies.tell_piece.Goals as goal

pub returns : goal.returns
returns g c =
    let a = c.args in
    let listener = g.T.MapSink in
    let needed : a.needs_pairs ≡ true = search rules in
    ok_so c.record_body.result c.record_body.ensures
    (tells_piece listener.records (g.met.T.MapSink.joins) a.listener.now c.record_body.new.self a.places.0 a.places.1 a.needs_pairs a.pairs.now needed)
