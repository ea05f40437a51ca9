use Rattle.wasm_body.proofs.LocalNumbers.{one_declared, one_local, places_are_numbers, runs_maximal}
use Rattle.wasm_body.proofs.laws.law_local_numbers.Goals as goal

pub returns : goal.returns
returns c = record { one_declared = one_declared; one_local = one_local; places = places_are_numbers; runs = runs_maximal }
