-- The relation between reading at the front of bytes and the spellings there.
use Rattle.std.proofs.Common.{◌≡◌, ℕ, ◌+◌, ◌-◌, List, ◌++◌, length, Result, Ok, Err, ap, sym, ◌∙◌, arith}
use Rattle.std.proofs.lemmas.List.{length-append}
use Rattle.std.specs.Prelude.{IfOk, IsOkAnd}
use Rattle.wasm_numbers.specs.declared.fault.ReadFault.{ReadFault}
use Rattle.wasm_operators.specs.Operations.{RawOperation}
use Rattle.wasm_ops.specs.Position.{Position, Moves}
use Rattle.wasm_numbers.specs.Results.{Gives}
use Rattle.wasm_operators.specs.Spelling.{Spells, read_operation}
use Rattle.wasm_numbers.proofs.Agreement.{IsBytes, ok_is}
use Rattle.wasm_operators.proofs.OperationLaws.{operations_agree}

pub front_found : {X : Type 0} (view : X → RawOperation × List ℕ) (r : Result X ReadFault) (bytes : List ℕ) → IsBytes bytes → Gives view r (read_operation bytes)
    → IfOk r (λ x. (text : List ℕ) × (bytes ≡ text ++ (view x).1) × Spells (view x).0 text)
front_found view (Err e) bytes fits given = tt
front_found view (Ok x) bytes fits given =
    let t = operations_agree.takes bytes (view x).0 (view x).1 fits given in
    (t.text, t.parts, t.spelt)

pub front_only : {X : Type 0} (view : X → RawOperation × List ℕ) (r : Result X ReadFault) (bytes : List ℕ) → Gives view r (read_operation bytes)
    → (o : RawOperation) (text rest : List ℕ) → Spells o text → bytes ≡ text ++ rest → IsOkAnd r (λ x. ((view x).0 ≡ o) × ((view x).1 ≡ rest))
front_only view (Err e) bytes given o text rest spelt parts = let h = sym given ∙ ap read_operation parts ∙ operations_agree.again o text rest spelt in absurd cc
front_only view (Ok x) bytes given o text rest spelt parts =
    let both = ok_is (view x) (o, rest) (sym given ∙ ap read_operation parts ∙ operations_agree.again o text rest spelt) in
    (ap (λ (p : RawOperation × List ℕ). p.0) both, ap (λ (p : RawOperation × List ℕ). p.1) both)

-- A reader that is at the start of a text and takes it moves past it.
pub moved : (old : Position) (bytes : List ℕ) (place : ℕ) (after text rest : List ℕ) → record { rest = bytes; place = place } ≡ old → old.rest ≡ text ++ rest → after ≡ rest
    → Moves old text (record { rest = after; place = place + (length bytes - length after) })
moved old bytes place after text rest view parts same =
    let places : place ≡ old.place = ap (λ (p : Position). p.place) view in
    let whole : bytes ≡ text ++ after = ap (λ (p : Position). p.rest) view ∙ parts ∙ ap (λ (t : List ℕ). text ++ t) (sym same) in
    let lengths : length bytes ≡ length text + length after = ap length whole ∙ length-append text after in
    record { parts = parts ∙ ap (λ (t : List ℕ). text ++ t) (sym same); place = omega arith }
