use Rattle.std.proofs.Common.{◌≡◌, length, rules, arith}
use Rattle.wasm_module.proofs.KeptPieceLemmas.{pushed_raw, pushed_pairs}
use Rattle.wasm_module.proofs.changing.kept_bodies.KeptBodies.keep_pushed.Goals as goal

pub returns-clause-raws : goal.returns-clause-raws
returns-clause-raws c = λ was raw ps taken.
    let mid = c.end_pairs.ensures in
    let ends : c.len-to.result ≡ length c.args.self.now.raws.items = search (arith, rules) in
    let all = c.keep_parts.ensures in
    let kept = c.in_ok-keep_parts.ensures in
    pushed_raw c.args.source was c.args.self.now c.end_pairs.new.self c.keep_parts.new.self c.args.from c.len-to.result c.args.packer c.in_ok-pairs.pairs raw ps taken
    c.requires.next ends mid.first mid.bodies mid.raws all.first all.raws_stay all.pairs_stay kept.bodies kept.raws

pub returns-clause-pairs : goal.returns-clause-pairs
returns-clause-pairs c = λ was raw ps taken.
    let mid = c.end_pairs.ensures in
    let ends : c.len-to.result ≡ length c.args.self.now.raws.items = search (arith, rules) in
    let all = c.keep_parts.ensures in
    let kept = c.in_ok-keep_parts.ensures in
    let packs = c.in_ok-pairs.ensures.packs was raw ps c.args.from taken in
    pushed_pairs c.args.source was c.args.self.now c.end_pairs.new.self c.keep_parts.new.self c.args.from c.len-to.result c.args.packer c.in_ok-pairs.pairs raw ps taken
    c.requires.next ends mid.first mid.bodies mid.raws all.first all.raws_stay all.pairs_stay kept.bodies kept.raws kept.packs packs.0 packs.1 packs.2
