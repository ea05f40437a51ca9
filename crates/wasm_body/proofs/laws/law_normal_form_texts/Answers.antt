use Rattle.wasm_body.proofs.NormalForm.NamedTexts.{have_texts}
use Rattle.wasm_body.proofs.NormalForm.Exponents.{exponent_is}
use Rattle.wasm_body.proofs.Bytes.LawfulTyped.{lawful_named}
use Rattle.wasm_body.proofs.laws.law_normal_form_texts.Goals as goal

pub returns : goal.returns
returns c = record { texts = have_texts; lawful = lawful_named; exponents = exponent_is }
