-- A body that is checked without a tree.
use Rattle.std.proofs.Common.{◌≡◌, ℕ, List, Option, None, Result, Ok, Err, Bool, true, inl, inr, refl}
use Rattle.wasm_operators.proofs.ReadingBytes.{reading_agrees}
use Rattle.wasm_body.specs.declared.error.ParseFailure.{ParseFailure}
use Rattle.wasm_body.specs.Parsing.Accepted.{Setting}
use Rattle.wasm_body.proofs.Parsing.ParseResults.{accepted_has_no_fault, one_first_fault}
use Rattle.walrus_flat.specs.CheckedBody.{ChecksAll}
use Rattle.walrus_flat.specs.FlatChecks.{ChecksFlat}

module _ {V : Type 0} (given : Option (ℕ → ℕ) → Setting V) (bytes : List ℕ) (used : ℕ → Bool) where
  abbrev setting : Setting V
  setting = given None

  pub checks_flat : (r : Result (Unit {0}) ParseFailure) → ChecksAll given true bytes used r → ChecksFlat setting bytes r
  checks_flat (Ok u) h =
      let made = h None tt in
      record {
        accepted = (made.body, made.accepted);
        refused = tt;
        each_body = λ b a. tt;
        each_fault = λ f fault. absurd (accepted_has_no_fault reading_agrees V setting bytes made.body f made.accepted fault);
      }
  checks_flat (Err f) (inl memory) = record {
    accepted = tt;
    refused = inl memory;
    each_body = λ b a. memory;
    each_fault = λ g fault. (refl, inl memory);
  }
  checks_flat (Err f) (inr h) =
      let first = h None tt in
      record {
        accepted = tt;
        refused = inr first;
        each_body = λ b a. absurd (accepted_has_no_fault reading_agrees V setting bytes b f a first);
        each_fault = λ g fault. (refl, inr (one_first_fault reading_agrees V setting bytes f g first fault));
      }
