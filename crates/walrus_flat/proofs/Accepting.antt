-- What parsing the operators gives is the accepted body, or the first fault.
use Rattle.std.specs.Prelude.{◌≡◌, ℕ, List, Ok, Err}
use Rattle.std.proofs.Common.{ap, subst, ◌∙◌}
use Rattle.wasm_operators.specs.Laws.{AreBytes}
use Rattle.wasm_operators.proofs.ReadingBytes.{reading_agrees}
use Rattle.wasm_body.specs.declared.error.ParseFailure.{ParseFailure}
use Rattle.wasm_body.specs.SourceTree.{Body}
use Rattle.wasm_body.specs.Naming.{Occurrence, entry_type_id}
use Rattle.wasm_body.specs.Parsing.Accepted.{Setting, Accepted, FirstFault}
use Rattle.wasm_body.specs.Parsing.Lists.{parsed_after_entry, parsed}
use Rattle.wasm_body.proofs.Parsing.ParseResults.{ParseResults, parse_results}
use Rattle.walrus_flat.proofs.CheckedFronts.{whole}

module _ {V : Type 0} (given : Setting V) (bytes : List ℕ) (id : ℕ) (entry : entry_type_id given.environment ≡ Ok id) (fits : AreBytes bytes) where
  by_entry : parsed given bytes ≡ whole given bytes
  by_entry = ap (λ r. parsed_after_entry given r bytes) entry

  pub accepted_of : (b : Body Occurrence) → whole given bytes ≡ Ok b → Accepted given bytes b
  accepted_of b is = subst (ParseResults given reading_agrees bytes) (by_entry ∙ is) (parse_results given reading_agrees bytes fits)

  pub fault_of : (f : ParseFailure) → whole given bytes ≡ Err f → FirstFault given bytes f
  fault_of f is = subst (ParseResults given reading_agrees bytes) (by_entry ∙ is) (parse_results given reading_agrees bytes fits)
