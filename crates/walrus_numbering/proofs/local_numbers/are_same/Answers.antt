use Rattle.std.proofs.Common.{arith}
use Rattle.std.proofs.lemmas.Grind.{common_steps}
use Rattle.std.proofs.lemmas.Bool.Decides.{same_from_decides}
use Rattle.wasm_body.proofs.LocalNumbers.{same_type-Decides}
use Rattle.walrus_numbering.proofs.local_numbers.are_same.Goals as goal

pub returns : goal.returns
returns c = same_from_decides _ _ (λ h. grind (arith, common_steps), λ e. grind (arith, common_steps)) (same_type-Decides c.args.a.now c.args.b.now)
