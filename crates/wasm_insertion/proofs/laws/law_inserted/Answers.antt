use Rattle.wasm_insertion.proofs.Insertions.{inserted_runs, same_or_stops, source_runs, named_inserted_runs, named_source_runs}
use Rattle.wasm_insertion.proofs.laws.law_inserted.Goals as goal

pub returns : goal.returns
returns g c = record {
  runs = inserted_runs g.row.A.Denot g.row.P.Denot;
  same_or_stops = same_or_stops g.row.A.Denot g.row.P.Denot;
  source_runs = source_runs g.row.A.Denot g.row.P.Denot;
  named = named_inserted_runs;
  named_source = named_source_runs;
}
