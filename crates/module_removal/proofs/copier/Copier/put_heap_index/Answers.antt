use Rattle.std.proofs.Common.{ℤ, OnOk, subst, w64, arith}
use Rattle.std.proofs.lemmas.Int.{to_z_pos}
use Rattle.wasm_operators.specs.Shortest.{short_integer}
use Rattle.module_removal.specs.CopiedParts.{writes, AppendsCopied}
use Rattle.module_removal.proofs.copier.Copier.put_heap_index.Goals as goal

pub returns-clause-ok : goal.returns-clause-ok
returns-clause-ok c =
    subst (λ (z : ℤ). OnOk c.put_integer.result (AppendsCopied c.args.self.now (writes (short_integer z)) c.put_integer.new.self))
    (to_z_pos w64 c.args.index (omega (arith, c.ranges.index.fits))) c.put_integer.ensures.ok
