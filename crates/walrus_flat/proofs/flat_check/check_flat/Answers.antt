use Rattle.std.proofs.Common.{◌<◌, ◌+◌, ◌^◌, ℕ, List, true, subst}
use Rattle.walrus_maps.specs.Environments.{environment_of}
use Rattle.walrus_parser.specs.Bodies.{body_operators}
use Rattle.walrus_flat.specs.CheckedBody.{setting_at, ChecksAll}
use Rattle.walrus_flat.specs.UsedLocals.{is_used}
use Rattle.walrus_flat.proofs.FlatChecks.{checks_flat}
use Rattle.walrus_flat.proofs.FlatResults.{ends_there}
use Rattle.walrus_flat.proofs.flat_check.check_flat.Goals as goal

pub check-requires : goal.check-requires
check-requires g c =
    let b = c.args.body in
    subst (λ n. n < 2 ^ 64) (ends_there b.start b.ops b.bytes.now c.operators-ops.result.now c.requires.ops c.operators-ops.ensures) c.requires.fits

pub returns : goal.returns
returns g c =
    let a = c.args in
    let env = environment_of a.module.now a.indices.now a.id a.ty in
    let given = setting_at env (a.body.start + a.body.ops) g.V.OpCheck.check (g.V.OpCheck.state a.validator) in
    let used = is_used c.check.new.scratch.used in
    checks_flat given (body_operators a.body) used c.check.result (subst (λ (bytes : List ℕ). ChecksAll given true bytes used c.check.result) c.operators-ops.ensures c.check.ensures)
