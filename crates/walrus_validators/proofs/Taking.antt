-- The next operator of the bytes, if a validator accepts it.
use Rattle.std.specs.Prelude.{◌≡◌, ℕ, List, Bool, true, false, Option, Some, None, Result, Ok, Err, ◌⊎◌}
use Rattle.std.specs.Borrow.{Bor}
use Rattle.std.specs.Fn.{Shared}
use Rattle.std.proofs.Common.{refl, ap, ◌∙◌, inl, inr}
use Rattle.wasm_numbers.specs.declared.fault.ReadFault.{ReadFault}
use Rattle.wasm_operators.specs.Operations.{RawOperation}
use Rattle.wasm_operators.specs.OperatorList.{Placed}
use Rattle.wasm_operators.specs.Spelling.{read_operation}
use Rattle.wasm_body.specs.declared.error.ParseError.{ParseError}
use Rattle.wasm_body.specs.declared.error.ParseError.TheVariants.{Read, PlaceTooGreat, Checked, Memory}
use Rattle.wasm_numbers.specs.Results.{◌>>=◌, unless, with_fault}
use Rattle.wasm_body.specs.Parsing.Accepted.{has_location, Admitted, admitted}
use Rattle.walrus_validators.specs.declared.check.CheckError.{CheckError}
use Rattle.walrus_validators.specs.declared.check.CheckError.TheVariants.{Refused, Memory as out_of_memory}
use Rattle.walrus_validators.specs.Checking.{placed_at, Checks, fault_of}
use Rattle.walrus_validators.specs.Locating.{Locates}

-- ---- what is admitted

module _ {S : Type 0} (fits : ℕ → Bool) (check : S → Placed → Result S ℕ) (s : S) (place : ℕ) where
  abbrev by_read : Result (RawOperation × List ℕ) ReadFault → Result (Admitted S) ParseError
  by_read r =
      with_fault (λ fault. Read (record { fault = fault; at = place })) r >>= λ x.
      unless (fits place) PlaceTooGreat >>= λ _.
      with_fault Checked (check s (placed_at x.0 place)) >>= λ t.
      Ok (record { spelt = x.0; rest = x.1; state = t })

  abbrev by_place : RawOperation → List ℕ → Bool → Result (Admitted S) ParseError
  by_place o rest b = unless b PlaceTooGreat >>= λ _. with_fault Checked (check s (placed_at o place)) >>= λ t. Ok (record { spelt = o; rest = rest; state = t })

  abbrev by_check : RawOperation → List ℕ → Result S ℕ → Result (Admitted S) ParseError
  by_check o rest c = with_fault Checked c >>= λ t. Ok (record { spelt = o; rest = rest; state = t })

  pub is_admitted : (bytes rest : List ℕ) (o : RawOperation) (t : S) → read_operation bytes ≡ Ok (o, rest) → fits place ≡ true → check s (placed_at o place) ≡ Ok t →
      admitted fits check s place bytes ≡ Ok (record { spelt = o; rest = rest; state = t })
  is_admitted bytes rest o t read fit checked = ap by_read read ∙ ap (by_place o rest) fit ∙ ap (by_check o rest) checked

  pub is_refused : (bytes rest : List ℕ) (o : RawOperation) (n : ℕ) → read_operation bytes ≡ Ok (o, rest) → fits place ≡ true → check s (placed_at o place) ≡ Err n →
      admitted fits check s place bytes ≡ Err (Checked n)
  is_refused bytes rest o n read fit checked = ap by_read read ∙ ap (by_place o rest) fit ∙ ap (by_check o rest) checked

  -- the validator refused it, or ran out of memory
  pub is_not_admitted : (o : RawOperation) (e : CheckError) (t : S) → fits place ≡ true → Checks check s (placed_at o place) (Err e) t →
      (fault_of e ≡ Memory) ⊎ ((bytes rest : List ℕ) → read_operation bytes ≡ Ok (o, rest) → admitted fits check s place bytes ≡ Err (fault_of e))
  is_not_admitted o (Refused n) t fit checked = inr (λ bytes rest read. is_refused bytes rest o n read fit checked)
  is_not_admitted o out_of_memory t fit checked = inl refl

  -- it can't be read
  pub is_not_read : (bytes : List ℕ) (fault : ReadFault) → read_operation bytes ≡ Err fault → admitted fits check s place bytes ≡ Err (Read (record { fault = fault; at = place }))
  is_not_read bytes fault unread = ap by_read unread

  pub is_too_great : (bytes rest : List ℕ) (o : RawOperation) → read_operation bytes ≡ Ok (o, rest) → fits place ≡ false → admitted fits check s place bytes ≡ Err PlaceTooGreat
  is_too_great bytes rest o read fit = ap by_read read ∙ ap (by_place o rest) fit

-- ---- places

module _ {F : Type 0} where
  pub located_fits : (g : Shared F (Bor ℕ × Unit {0}) ℕ) (o : Option (Bor F)) (place location : ℕ) → Locates g o place location → has_location o place ≡ true
  located_fits g None place location h = h.0
  located_fits g (Some f) place location h = refl
