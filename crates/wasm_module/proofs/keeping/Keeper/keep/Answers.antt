use Rattle.std.proofs.Common.{rules}
use Rattle.wasm_module.proofs.KeptLemmas.{keeps_one}
use Rattle.wasm_module.proofs.KeptPairLemmas.{keeps_one_with}
use Rattle.wasm_module.proofs.keeping.Keeper.keep.Goals as goal

pub returns-in-Ok-clause-raws : goal.returns-in-Ok-clause-raws
returns-in-Ok-clause-raws c =
    let kept = c.in-Ok.ensures in
    keeps_one c.args.body c.args.scratch.now.raw.items c.args.self.now.kept c.keep_with.new.self kept.first (search rules) kept.bodies kept.raws

pub returns-in-Ok-clause-pairs : goal.returns-in-Ok-clause-pairs
returns-in-Ok-clause-pairs c =
    let kept = c.in-Ok.ensures in
    keeps_one_with c.args.self.now.keeping.pairs c.args.body c.args.scratch.now.raw.items c.args.scratch.now.pairs.items c.args.self.now.kept c.keep_with.new.self kept.first (search rules) kept.fit
    kept.bodies kept.raws kept.packs
