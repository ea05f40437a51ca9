-- Names with other locals, as a translation; the locals of an operator that is written have numbers.
use Rattle.std.proofs.Common.{◌≡◌, ℕ, List, [], ◌∷◌, map, Some, Ok, Err, refl, ap, ◌∙◌}
use Rattle.std.specs.Result.{result_ok}
use Rattle.std.specs.List.{AllByRecursion}
use Rattle.walrus_ir.specs.Types.{Signature}
use Rattle.wasm_numbers.specs.Results.{◌>>=◌, each}
use Rattle.wasm_operators.specs.Operations.{Immediate, local}
use Rattle.wasm_body.specs.declared.error.EmitError.{EmitError}
use Rattle.wasm_body.specs.LocalNumbers.{locals_among}
use Rattle.wasm_body.specs.Translation.{Translation, keeping_numbers, translate_immediate, translate_immediates}
use Rattle.wasm_body.specs.Validity.{Checked, Refusal}
use Rattle.wasm_body.proofs.Translation.Steps.{after_two, bound}
use Rattle.wasm_body.proofs.Translation.Translations.{same, translate_same}
use Rattle.renamed_locals.specs.RenamedLocals.{renamed_immediate}

abbrev pub Fine : {X : Type 0} → X → Checked X
Fine x = Ok x

-- ---- locals renamed, as a translation

-- nothing changes but the locals
abbrev pub renaming : (ℕ → ℕ) → Translation ℕ Signature ℕ Signature Refusal
renaming f = record (keeping_numbers (λ l. Ok l) (λ s. Ok s) (λ e. e)) { local = λ n. Ok (f n) }

one_same : (i : Immediate ℕ Signature) → translate_immediate {E = Refusal} same i ≡ Ok i
one_same i =
    let both = bound (translate_immediate same i) (λ j. Fine (j ∷ [])) (i ∷ []) (translate_same (i ∷ [])) in
    let is : both.0 ∷ [] ≡ i ∷ [] = cc both.2 in
    let first : both.0 ≡ i = cc is in
    both.1 ∙ ap Fine first

one_renamed : (f : ℕ → ℕ) (i : Immediate ℕ Signature) → translate_immediate (renaming f) i ≡ Ok (renamed_immediate f i)
one_renamed f (local n) = refl
one_renamed f i = one_same i

pub renaming_is : (f : ℕ → ℕ) (is : List (Immediate ℕ Signature)) → translate_immediates (renaming f) is ≡ Ok (map (renamed_immediate f) is)
renaming_is f [] = refl
renaming_is f (i ∷ is) =
    after_two (translate_immediate (renaming f) i) (Ok (renamed_immediate f i)) (translate_immediates (renaming f) is) (Ok (map (renamed_immediate f) is)) (λ j js. Ok (j ∷ js))
    (one_renamed f i) (renaming_is f is)

-- ---- the locals of an operator that is written have numbers

module _ {M C : Type 0} (t : Translation ℕ Signature M C EmitError) (P : ℕ → Type 0) (given : (id n : ℕ) → t.local id ≡ Ok n → P id) where
  pub locals_have_numbers : (is : List (Immediate ℕ Signature)) (js : List (Immediate M C)) → translate_immediates t is ≡ Ok js → AllByRecursion P (locals_among is)
  locals_have_numbers [] js e = tt
  locals_have_numbers (local id ∷ is) js e =
      let first = bound (translate_immediate t (local id)) (λ j. each (translate_immediate t) is >>= λ ks. Ok (j ∷ ks)) js e in
      let rest = bound (each (translate_immediate t) is) (λ ks. Ok (first.0 ∷ ks)) js first.2 in
      let number = bound (t.local id) (λ n. Ok (local n)) first.0 first.1 in
      (given id number.0 number.1, locals_have_numbers is rest.0 rest.1)
  locals_have_numbers (i ∷ is) js e =
      let first = bound (translate_immediate t i) (λ j. each (translate_immediate t) is >>= λ ks. Ok (j ∷ ks)) js e in
      let rest = bound (each (translate_immediate t) is) (λ ks. Ok (first.0 ∷ ks)) js first.2 in
      locals_have_numbers is rest.0 rest.1

-- ---- results

pub ok_of_some : {X : Type 0} (r : Checked X) (x : X) → result_ok r ≡ Some x → r ≡ Ok x
ok_of_some {X} (Ok y) x h = let i : y ≡ x = cc h in ap (λ (z : X). Ok z) i
ok_of_some (Err e) x h = absurd cc
