use Rattle.std.proofs.Common.{Some}
use Rattle.walrus_maps.specs.Environments.{environment_of}
use Rattle.tests_body.proofs.ReadBackLemmas.{first_fault}
use Rattle.tests_body.proofs.read_back.read.Goals as goal

pub returns-clause-refused : goal.returns-clause-refused
returns-clause-refused c =
    let a = c.args in
    first_fault (environment_of a.module.now a.indices.now a.id a.ty) a.ops.now _ c.parse.result c.parse.ensures.refused (λ locate. tt)

pub returns-clause-each_body : goal.returns-clause-each_body
returns-clause-each_body c locate b accepted = c.parse.ensures.each_body (Some locate) b tt accepted

pub returns-clause-each_fault : goal.returns-clause-each_fault
returns-clause-each_fault c locate f fault = c.parse.ensures.each_fault (Some locate) f tt fault
