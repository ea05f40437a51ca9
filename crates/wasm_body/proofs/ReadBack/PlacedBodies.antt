-- Named operators as operators that occur, one after the other from a place on.
use Rattle.std.proofs.Common.{◌≡◌, ℕ, ◌+◌, List, [], ◌∷◌, length, map, refl, ap, ◌∙◌}
use Rattle.wasm_operators.specs.Operations.{RawOperation}
use Rattle.wasm_operators.specs.Shortest.{short}
use Rattle.wasm_body.specs.Control.{Control, Marked, with_control}
use Rattle.wasm_body.specs.Naming.{Occurrence}
use Rattle.wasm_body.specs.Parsing.Accepted.{mark}
use Rattle.wasm_body.specs.NormalForm.{name_at}
use Rattle.wasm_body.proofs.Structure.Along.{AllMarked, HasControl}
use Rattle.wasm_body.proofs.Structure.Lifted.{controls_of}
use Rattle.wasm_body.proofs.Structure.Mapped.{map_mark}
use Rattle.wasm_body.proofs.NormalForm.Rewritten.{Named}
use Rattle.wasm_body.proofs.NormalForm.ByNames.{op_of}
use Rattle.wasm_body.proofs.ReadBack.FrameNames.{named_of}
use Rattle.wasm_body.proofs.ReadBack.Related.{AllRelated}

module _ (spelt : Marked Named → RawOperation) (locate : ℕ → ℕ) where
  abbrev pub make : ℕ → Marked Named → Occurrence
  make p x = record { spelt = spelt x; place = p; location = locate p; named = x.shown.op }

  abbrev pub place_after : ℕ → Marked Named → ℕ
  place_after p x = p + length (short (spelt x))

  abbrev pub at_places : ℕ → List (Marked Named) → List Occurrence
  at_places p [] = []
  at_places p (x ∷ xs) = make p x ∷ at_places (place_after p x) xs

  -- and what they do to the control
  abbrev pub marks_at : ℕ → List (Marked Named) → List (Marked Occurrence)
  marks_at p [] = []
  marks_at p (x ∷ xs) = with_control (make p x) x.control ∷ marks_at (place_after p x) xs

  pub are_marks : (p : ℕ) (xs : List (Marked Named)) → AllMarked HasControl xs → map mark (at_places p xs) ≡ marks_at p xs
  are_marks p [] h = refl
  are_marks p (x ∷ xs) h =
      ap (λ c. with_control (make p x) c ∷ map mark (at_places (place_after p x) xs)) h.0
      ∙ ap (λ l. with_control (make p x) x.control ∷ l) (are_marks (place_after p x) xs h.1)

  pub controls_at : (p : ℕ) (xs : List (Marked Named)) → controls_of (marks_at p xs) ≡ controls_of xs
  controls_at p [] = refl
  controls_at p (x ∷ xs) = ap (λ l. x.control ∷ l) (controls_at (place_after p x) xs)

  pub names_at : (p : ℕ) (xs : List (Marked Named)) → map (map_mark op_of) (map (map_mark name_at) (marks_at p xs)) ≡ map (map_mark op_of) xs
  names_at p [] = refl
  names_at p (x ∷ xs) = ap (λ l. map_mark op_of x ∷ l) (names_at (place_after p x) xs)

  -- a condition on a named operator, for an operator that occurs there
  abbrev pub IsMadeOf : (Named → Control → Type 0) → Marked Named → Marked Occurrence → Type 0
  IsMadeOf P x y = (p : ℕ) × (with_control (make p x) x.control ≡ y) × P x.shown x.control

  pub made_at : (P : Named → Control → Type 0) (p : ℕ) (xs : List (Marked Named)) → AllMarked P xs → AllRelated op_of named_of (IsMadeOf P) xs (marks_at p xs)
  made_at P p [] h = tt
  made_at P p (x ∷ xs) h = (record { control = refl; name = refl; also = (p, refl, h.0) }, made_at P (place_after p x) xs h.1)
