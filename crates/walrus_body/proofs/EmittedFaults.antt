-- The faults of emitting what a parse made.
use Rattle.std.proofs.Common.{◌≡◌, ◌⊎◌, ℕ, List, [], ◌∷◌, length, map, Err, inl, inr, subst}
use Rattle.std.specs.Borrow.{Bor}
use Rattle.std.specs.Fn.{Shared}
use Rattle.std.specs.List.{AllByRecursion}
use Rattle.walrus_ir.proofs.WalkLaws.{tree_has_no_fault}
use Rattle.wasm_operators.specs.OperatorList.{Lists}
use Rattle.wasm_body.specs.Naming.{Occurrence}
use Rattle.wasm_body.specs.Bytes.{tree_bytes}
use Rattle.wasm_body.specs.NormalForm.{body_tree}
use Rattle.wasm_body.specs.Parsing.Accepted.{HasSpelling, placed}
use Rattle.wasm_body.proofs.Bytes.Faults.{emission_faults}
use Rattle.walrus_numbering.specs.NumberMaps.{numbers_by}
use Rattle.walrus_numbering.proofs.FittingNumbers.{numbers_fit}
use Rattle.walrus_body.specs.LocalFunctions.{first_slot}
use Rattle.walrus_body.specs.EmittedInstructions.{EmittedFaults}
use Rattle.walrus_body.proofs.OneTree.{from_slot, only_tree}

-- operators that bytes list have encodings
pub listed_spelt : (xs : List Occurrence) (place : ℕ) (bytes rest : List ℕ) → Lists (map placed xs) place bytes rest → AllByRecursion HasSpelling xs
listed_spelt [] place bytes rest l = tt
listed_spelt (x ∷ xs) place bytes rest l = ((l.1, l.4), listed_spelt xs _ l.2 rest l.5)

pub emitted_faults : (S F : Type 0) (calls : Shared F (Bor ℕ × Unit {0}) ℕ) → EmittedFaults S F calls
emitted_faults S F calls i f mapping a types ids locals e (inl memory) = inl memory
emitted_faults S F calls i f mapping a types ids locals e (inr (inl h)) =
    let has = from_slot f (body_tree i.environment a.body) a.is_function in
    absurd (tree_has_no_fault f.sequences (first_slot f) has.unfolded h.0 has.is_tree h.1)
emitted_faults S F calls i f mapping a types ids locals e (inr (inr h)) =
    let tree = body_tree i.environment a.body in
    let to = numbers_by types ids locals in
    let fault = subst (λ t. tree_bytes to t ≡ Err e) (only_tree f tree a.is_function h.0 h.1) h.2 in
    let xs = a.accepted.operators in
    inr (emission_faults i.environment xs a.body (listed_spelt xs _ i.bytes [] a.accepted.all.spelt) a.accepted.lawful to (numbers_fit types ids locals) e fault)
