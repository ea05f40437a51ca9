use Rattle.wasm_body.proofs.Executions.Locations.{places_increase, pairs_located, locations_agree, locations_honest}
use Rattle.wasm_body.proofs.NormalForm.NamedTexts.{has_text}
use Rattle.wasm_body.proofs.laws.law_locations.Goals as goal

pub returns : goal.returns
returns c = record { increase = places_increase; of_text = pairs_located; is_rewritten = has_text; named = locations_agree; accepted = locations_honest }
