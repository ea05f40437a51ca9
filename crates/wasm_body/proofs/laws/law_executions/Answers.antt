use Rattle.wasm_body.proofs.Executions.NormalForms.{named_executions_kept, executions_kept, runs_by_place}
use Rattle.wasm_body.proofs.Executions.Enough.{count_suffices}
use Rattle.wasm_body.proofs.laws.law_executions.Goals as goal

pub returns : goal.returns
returns c = record {
  named = named_executions_kept;
  accepted = executions_kept;
  by_place = runs_by_place;
  count_suffices = count_suffices;
}
