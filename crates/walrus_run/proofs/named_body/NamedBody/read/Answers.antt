use Rattle.std.proofs.Common.{◌≡◌, ◌+◌, sym, ap, subst, ◌∙◌}
use Rattle.wasm_ops.specs.Position.{Position}
use Rattle.walrus_parser.specs.Bodies.{body_operators}
use Rattle.walrus_parser.specs.Settings.{operators_of}
use Rattle.walrus_run.specs.NamedBodies.{reading}
use Rattle.walrus_run.specs.Namers.{AreLeft}
use Rattle.walrus_run.proofs.ReadBodies.{left_of, is_named, is_refused, has_no_fault, refused_body, refused_fault}
use Rattle.walrus_run.proofs.named_body.NamedBody.read.Goals as goal

pub returns-in-Ok-clause-each_body : goal.returns-in-Ok-clause-each_body
returns-in-Ok-clause-each_body c = λ locate b accepted.
    let a = c.args in
    let given = reading a.«module».now a.indices.now a.id a.ty a.body locate in
    let at : (let p : Position = record { rest = body_operators a.body; place = a.body.start + a.body.ops } in p) ≡ c.new.result =
    sym (c.new.ensures ∙ ap (λ rest. record { rest = rest; place = a.body.start + a.body.ops }) c.operators-ops.ensures) in
    c.named.ensures (operators_of b) (subst (λ p. AreLeft given.environment p (operators_of b)) at (left_of given (body_operators a.body) b accepted))

pub returns-in-Ok-clause-accepted : goal.returns-in-Ok-clause-accepted
returns-in-Ok-clause-accepted c =
    let a = c.args in
    is_named (reading a.«module».now a.indices.now a.id a.ty a.body) (body_operators a.body) c.in-Ok.ensures.ok c.named.result (returns-in-Ok-clause-each_body c)

pub returns-in-Ok-clause-refused : goal.returns-in-Ok-clause-refused
returns-in-Ok-clause-refused c =
    let a = c.args in
    is_refused (reading a.«module».now a.indices.now a.id a.ty a.body) (body_operators a.body) c.in-Ok.ensures.ok c.named.result (returns-in-Ok-clause-each_body c)

pub returns-in-Ok-clause-each_fault : goal.returns-in-Ok-clause-each_fault
returns-in-Ok-clause-each_fault c =
    let a = c.args in
    has_no_fault (reading a.«module».now a.indices.now a.id a.ty a.body) (body_operators a.body) c.in-Ok.ensures.ok c.named.result

pub returns-in-Err-clause-each_body : goal.returns-in-Err-clause-each_body
returns-in-Err-clause-each_body c =
    let a = c.args in
    refused_body (reading a.«module».now a.indices.now a.id a.ty a.body) (body_operators a.body) c.in-Err.failure c.in-Err.ensures.err

pub returns-in-Err-clause-each_fault : goal.returns-in-Err-clause-each_fault
returns-in-Err-clause-each_fault c =
    let a = c.args in
    refused_fault (reading a.«module».now a.indices.now a.id a.ty a.body) (body_operators a.body) c.in-Err.failure c.in-Err.ensures.err
