use Rattle.std.proofs.Common.{subst}
use Rattle.std.specs.Bool.{OnTrue}
use Rattle.wasm_operators.specs.Meaning.{meaning}
use Rattle.walrus_flat.specs.Checkers.{HasNoParts}
use Rattle.walrus_flat.proofs.checker.Checker.check_opener.Goals as goal

pub returns-then-is_plain_opener-clause-parts : goal.returns-then-is_plain_opener-clause-parts
returns-then-is_plain_opener-clause-parts c =
    subst (λ b. OnTrue b (HasNoParts (meaning c.args.operator.now))) c.if-is_plain_opener.true c.is_plain_opener.ensures c.args.self.now
