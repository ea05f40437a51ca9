use Rattle.std.proofs.Common.{Some, subst}
use Rattle.wasm_operators.specs.Laws.{AreBytes}
use Rattle.walrus_parser.specs.Bodies.{body_operators}
use Rattle.walrus_run.specs.NamedBodies.{reading}
use Rattle.walrus_run.proofs.ReadBodies.{accepted_without_fault}
use Rattle.walrus_run.proofs.named_body.check.Goals as goal

pub returns-in-Ok-clause-ok : goal.returns-in-Ok-clause-ok
returns-in-Ok-clause-ok c = λ locate.
    let a = c.args in
    let n = a.namer.now in
    let bytes = subst AreBytes c.operators.ensures c.law_bytes.ensures in
    accepted_without_fault (reading n.«module».now n.indices.now n.function n.ty a.body locate) (body_operators a.body) bytes
    (λ f fault. let refused = c.in-Ok.ensures.each_fault (Some locate) f tt fault in absurd (let none = refused.0 in cc))
