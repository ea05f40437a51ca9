use Rattle.walrus_flat.proofs.NoParts.{byte_alone, on_true_is}
use Rattle.walrus_flat.proofs.checker.Checker.check_alone.Goals as goal

pub returns-in-Some-clause-parts : goal.returns-in-Some-clause-parts
returns-in-Some-clause-parts c = byte_alone _ _ c.in-Some.ensures c.args.self.now

pub returns-then-is_float-clause-parts : goal.returns-then-is_float-clause-parts
returns-then-is_float-clause-parts c = on_true_is c.is_float.result c.if-is_float.true c.is_float.ensures c.args.self.now
