use Rattle.wasm_body.proofs.Flat.Texts.{flat_is_rewritten}
use Rattle.wasm_body.proofs.Flat.Numbers.{flat_is_text, flat_is_numbered}
use Rattle.wasm_body.proofs.Flat.Locals.{locals_read_are_named}
use Rattle.wasm_body.proofs.Flat.Fronts.{continues, breaks}
use Rattle.wasm_body.proofs.Flat.OtherLocations.{faults_anywhere, locals_anywhere}
use Rattle.wasm_body.proofs.flat_laws.law_flat.Goals as goal

pub returns : goal.returns
returns c = record {
  rewritten = flat_is_rewritten;
  text = flat_is_text;
  numbered = flat_is_numbered;
  one_more = λ to m balanced read s written so x. (continues balanced to m read s written so x, breaks balanced to m read s written so x);
  faults = faults_anywhere;
  locals = locals_read_are_named;
  same_locals = locals_anywhere;
}
