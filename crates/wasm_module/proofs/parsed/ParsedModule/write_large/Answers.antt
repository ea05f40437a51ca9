use Rattle.std.proofs.Common.{◌≡◌, [], true, is_some, sym, ◌∙◌}
use Rattle.wasm_module.specs.KeptPieces.{HasTaken}
use Rattle.wasm_module.proofs.KeptPairLemmas.{stay_kept_with}
use Rattle.wasm_module.proofs.ModuleLemmas.{extends_same}
use Rattle.wasm_module.proofs.parsed.ParsedModule.write_large.Goals as goal

pub keep_large-requires : goal.keep_large-requires
keep_large-requires g c =
    let made = c.in-Ok.ensures.written c.args.self.now (extends_same c.args.self.now) in
    let before = c.args.keeper.now.kept in
    record { taken = λ whole. (before, made.0.bytes, made.0.pairs, (made.4.0 whole).1 before [] [] (c.large-sink.ensures.taken (made.4.0 whole).0)) }

pub returns-in-Ok-clause-kept : goal.returns-in-Ok-clause-kept
returns-in-Ok-clause-kept g c = λ source e.
    let made = c.in-Ok.ensures.written source e in
    let sink = c.write_large_body.new.sink in
    let before = c.args.keeper.now.kept in
    let raw = made.0.bytes in
    let pairs = made.0.pairs in
    let taken : sink.is_whole ≡ true → HasTaken before sink.kept sink.from sink.packer raw pairs =
    λ whole. (made.4.0 whole).1 before [] [] (c.large-sink.ensures.taken (made.4.0 whole).0) in
    stay_kept_with (g.B.BodyWriter.writes c.args.bodies.now) source (is_some sink.packer) c.args.body raw pairs made.1 before c.keep_large.new.self.kept
    (c.keep_large.ensures.raws before raw pairs taken) (c.keep_large.ensures.pairs before raw pairs taken) made.2
    (λ has. made.3 (c.has_pairs-has_pairs.ensures ∙ sym made.4.1 ∙ has))
