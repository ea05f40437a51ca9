use Rattle.walrus_metering.proofs.ChargedRuns.{charged_runs_are_paid}
use Rattle.walrus_metering.proofs.laws.law_charged_runs.Goals as goal

pub returns : goal.returns
returns g c = charged_runs_are_paid g.row.A.Denot g.row.P.Denot
