use Rattle.wasm_module.proofs.NewSectionLemmas.{NewSoFar}
use Rattle.wasm_module.proofs.writing.put_between.Given as goal

abbrev pub invariant-given : goal.invariant-given
invariant-given g l = NewSoFar l.ranks.0 l.ranks.1 l.changes.given.items l.given-index (g.W.Write.contents l.fn.out) (g.W.Write.contents l.out) l.at l.end
