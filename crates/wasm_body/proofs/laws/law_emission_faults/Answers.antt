use Rattle.wasm_body.proofs.Bytes.Faults.{emission_faults, declaration_faults}
use Rattle.wasm_body.proofs.laws.law_emission_faults.Goals as goal

pub returns : goal.returns
returns c = record { operators = emission_faults; declarations = declaration_faults }
