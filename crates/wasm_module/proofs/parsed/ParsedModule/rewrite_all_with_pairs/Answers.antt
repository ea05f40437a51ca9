use Rattle.std.proofs.Common.{subst}
use Rattle.wasm_module.specs.KeptCode.{IsKeptWith}
use Rattle.wasm_module.proofs.parsed.ParsedModule.rewrite_all_with_pairs.Goals as goal

pub returns-in-Ok-clause-kept : goal.returns-in-Ok-clause-kept
returns-in-Ok-clause-kept c = λ source x function b raw pairs k.
    c.in-Ok.ensures.pairs source x function b raw pairs (subst (λ kept. IsKeptWith kept source function b raw pairs) c.with_pairs.ensures.kept k)
