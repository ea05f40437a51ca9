-- The laws of locations: a pair that is looked up by its place is the one of its operator, and a text has the same locations
-- in every way of writing.
use Rattle.std.proofs.Common.{◌≡◌, ℕ, zero, suc, ◌+◌, ◌<◌, ◌≤◌, List, [], ◌∷◌, ◌++◌, length, map, true, false, Option, Some, None, Ok, refl, sym, ap, ◌∙◌, subst, arith}
use Rattle.std.specs.Prelude.{◌==◌, if◌then◌else◌, slice_get, slice_index, option_and_then}
use Rattle.std.specs.List.Sorted.{IsStrictlyIncreasing}
use Rattle.wasm_operators.specs.declared.types.Opcode.{Opcode}
use Rattle.wasm_operators.specs.declared.types.Opcode.TheVariants.{Byte, Prefixed}
use Rattle.wasm_operators.specs.Operations.{Operation, RawOperation}
use Rattle.wasm_operators.specs.Shortest.{short, short_opcode, short_immediates}
use Rattle.wasm_numbers.specs.Results.{◌>>=◌, gather}
use Rattle.wasm_body.specs.Control.{Marked}
use Rattle.wasm_body.specs.SourceTree.{Body, body_text}
use Rattle.wasm_body.specs.Translation.{translate, Located, at_location}
use Rattle.wasm_body.specs.NormalForm.{Typing, typing_of, normal_form, name_at, named_body}
use Rattle.wasm_body.specs.FlatText.{Writing, TextTranslation, tree_text, with_names}
use Rattle.wasm_body.specs.Bytes.{Numbers, writing_numbers, numbered_text}
use Rattle.wasm_body.specs.Typed.{AreTyped}
use Rattle.wasm_body.specs.TextLaws.{IsNamedBody, IsTextOf}
use Rattle.wasm_body.specs.Machine.{Event, Executed, Taken, Run}
use Rattle.wasm_body.specs.Places.{show_event, show_run, run_by_place, shown_by}
use Rattle.wasm_body.specs.Pairs.{Pair, pairs_from, tree_pairs, location_in}
use Rattle.wasm_body.specs.ExecutionLaws.{controls, locations_of}
use Rattle.wasm_body.specs.LocationLaws.{BalanceAlike, PlacesIncrease, written_run, locations_along, LocationsAgree, LocationsAreHonest}
use Rattle.wasm_body.proofs.Translation.Steps.{bound}
use Rattle.wasm_body.proofs.Structure.Along.{Each, HasControl}
use Rattle.wasm_body.proofs.NormalForm.Rewritten.{Named}
use Rattle.wasm_body.proofs.NormalForm.WrittenTexts.{named_by, type_at, written_result, anew_by, tree_text_by}
use Rattle.wasm_body.proofs.NormalForm.NamedTexts.{source_controls}
use Rattle.wasm_body.proofs.Bytes.LawfulTyped.{lawful_named}
use Rattle.wasm_body.proofs.Executions.NormalForms.{named_executions_kept}

-- ---- places increase

-- an operator has at least one byte
some_byte : (o : RawOperation) → 0 < length (short o)
some_byte o = by_opcode o.opcode
  where
    by_opcode : (c : Opcode) → 0 < length (short_opcode c ++ short_immediates o.immediates)
    by_opcode (Byte b) = omega arith
    by_opcode (Prefixed p n) = omega arith

abbrev places : List Pair → List ℕ
places ps = map (λ (p : Pair). p.1) ps

increasing : (xs : List (Located RawOperation)) (q : ℕ) → IsStrictlyIncreasing (places (pairs_from q xs))
increasing [] q k h = absurd (omega arith)
increasing (x ∷ []) q k h = absurd (omega arith)
increasing (x ∷ y ∷ xs) q zero h = omega (arith, some_byte x.op)
increasing (x ∷ y ∷ xs) q (suc k) h =
    let e : suc (k + 1) ≡ suc k + 1 = omega arith in
    let all = places (pairs_from q (x ∷ y ∷ xs)) in
    subst (λ n. slice_index all (suc k) < slice_index all n) e (increasing (y ∷ xs) (q + length (short x.op)) k (omega arith))

pub places_increase : PlacesIncrease
places_increase to t before ps e =
    let xs = bound (numbered_text to t) (λ xs. Ok (pairs_from before xs)) ps e in
    let same : pairs_from before xs.0 ≡ ps = cc xs.2 in
    subst (λ qs. IsStrictlyIncreasing (places qs)) same (increasing xs.0 before)

-- ---- a pair is found by its place

-- the place that is looked up is not before this one
abbrev IsFrom : ℕ → Option ℕ → Type 0
IsFrom q None = Unit {0}
IsFrom q (Some p) = q ≤ p

from_on : (q r : ℕ) (o : Option ℕ) → r ≤ q → IsFrom q o → IsFrom r o
from_on q r None l h = tt
from_on q r (Some p) l h = omega arith

places_from : (xs : List (Located RawOperation)) (q j : ℕ) → IsFrom q (slice_get (places (pairs_from q xs)) j)
places_from [] q j = tt
places_from (x ∷ xs) q zero = omega arith
places_from (x ∷ xs) q (suc j) =
    let following = q + length (short x.op) in
    from_on following q (slice_get (places (pairs_from following xs)) j) (omega arith) (places_from xs following j)

-- the first pair is passed over
passed : (p : Pair) (ps : List Pair) (o : Option ℕ) → IsFrom (suc p.1) o → option_and_then (location_in (p ∷ ps)) o ≡ option_and_then (location_in ps) o
passed p ps None h = refl
passed p ps (Some q) h =
    let other : (p.1 == q) ≡ false = grind arith in
    ap (λ b. if b then Some p.0 else location_in ps q) other

found : (xs : List (Located RawOperation)) (q j : ℕ)
    → option_and_then (location_in (pairs_from q xs)) (slice_get (places (pairs_from q xs)) j) ≡ slice_get (map (λ x. x.location) xs) j
found [] q j = refl
found (x ∷ xs) q zero =
    let here : (q == q) ≡ true = grind arith in
    ap (λ b. if b then Some x.location else location_in (pairs_from (q + length (short x.op)) xs) q) here
found (x ∷ xs) q (suc j) =
    let following = q + length (short x.op) in
    let rest = pairs_from following xs in
    let place = slice_get (places rest) j in
    passed ((x.location, q)) rest place (from_on following (suc q) place (omega (arith, some_byte x.op)) (places_from xs following j)) ∙ found xs following j

-- ---- runs that are shown twice

shown_twice : {A B C : Type 0} → (f : A → B) (g : B → C) (h : A → C) → ((a : A) → g (f a) ≡ h a) → (es : List (Event A))
    → map (show_event g) (map (show_event f) es) ≡ map (show_event h) es
shown_twice f g h e [] = refl
shown_twice f g h e (Executed a ∷ es) = ap (λ b. Executed b ∷ map (show_event g) (map (show_event f) es)) (e a) ∙ ap (λ l. Executed (h a) ∷ l) (shown_twice f g h e es)
shown_twice f g h e (Taken a i t ∷ es) = ap (λ b. Taken b i t ∷ map (show_event g) (map (show_event f) es)) (e a) ∙ ap (λ l. Taken (h a) i t ∷ l) (shown_twice f g h e es)

run_twice : {A B C : Type 0} → (f : A → B) (g : B → C) (h : A → C) → ((a : A) → g (f a) ≡ h a) → (r : Run A) → show_run g (show_run f r) ≡ show_run h r
run_twice f g h e r = ap (λ es. record { events = es; ending = r.ending }) (shown_twice f g h e r.events)

-- ---- locations are the same in every way of writing

module _ {M C : Type 0} (w : TextTranslation M C) (m : Typing) where
  results_at : (xs : List (Marked Named)) (ys : List (Located (Operation M C))) → gather (map (written_result w m) xs) ≡ Ok ys
      → map (λ y. y.location) ys ≡ map (λ x. x.shown.location) xs
  results_at [] ys e = let same : [] ≡ ys = cc e in ap (λ (l : List (Located (Operation M C))). map (λ y. y.location) l) (sym same)
  results_at (x ∷ xs) ys e =
      let first = bound (written_result w m x) (λ y. gather (map (written_result w m) xs) >>= λ zs. Ok (y ∷ zs)) ys e in
      let rest = bound (gather (map (written_result w m) xs)) (λ zs. Ok (first.0 ∷ zs)) ys first.2 in
      let made = bound (translate (named_by w (type_at m x.control x.shown.op)) x.shown.op) (λ o. Ok (at_location o x.shown.location)) first.0 first.1 in
      let is : at_location made.0 x.shown.location ≡ first.0 = cc made.2 in
      let whole : first.0 ∷ rest.0 ≡ ys = cc rest.2 in
      ap (λ (l : List (Located (Operation M C))). map (λ y. y.location) l) (sym whole)
      ∙ (ap (λ (y : Located (Operation M C)). y.location ∷ map (λ z. z.location) rest.0) (sym is)
      ∙ ap (λ l. x.shown.location ∷ l) (results_at xs rest.0 rest.1))

text_at : {M C : Type 0} → (w : Writing M C) (m : Typing) (b : Body Named) → Each HasControl b.sequence → (ys : List (Located (Operation M C)))
    → tree_text w (normal_form m b) ≡ Ok ys → map (λ y. y.location) ys ≡ map (λ x. x.shown.location) (body_text (anew_by w.balanced m b))
text_at w m b h ys e = results_at w.translation m (body_text (anew_by w.balanced m b)) ys (sym (tree_text_by w m b h) ∙ e)

-- ---- the laws

locations_of_pairs : (xs : List (Located RawOperation)) (q : ℕ) → map (λ (p : Pair). p.0) (pairs_from q xs) ≡ map (λ x. x.location) xs
locations_of_pairs [] q = refl
locations_of_pairs (x ∷ xs) q = ap (λ l. x.location ∷ l) (locations_of_pairs xs (q + length (short x.op)))

module _ (m : Typing) (xs : List Named) (b : Body Named) (hx : IsNamedBody xs b) (h : AreTyped m xs)
    (ys : List Named) (text : IsTextOf m (normal_form m b) ys)
    (to : Numbers) (alike : BalanceAlike m to) (before : ℕ) (ps : List Pair) (e : tree_pairs to (normal_form m b) before ≡ Ok ps) where
  -- the operators as they are encoded, at the locations of the text
  numbered : (zs : List (Located RawOperation)) × (numbered_text to (normal_form m b) ≡ Ok zs) × (pairs_from before zs ≡ ps)
  numbered = let zs = bound (numbered_text to (normal_form m b)) (λ zs. Ok (pairs_from before zs)) ps e in (zs.0, zs.1, cc zs.2)

  located_alike : map (λ z. z.location) numbered.0 ≡ map (λ y. y.location) ys
  located_alike =
      let has_control = source_controls m xs b hx h in
      text_at (writing_numbers to) m b has_control numbered.0 numbered.1
      ∙ (ap (λ balanced. map (λ x. x.shown.location) (body_text (anew_by balanced m b))) (λ i t. alike t i)
      ∙ sym (text_at (with_names m) m b has_control ys text))

  pub pairs_located : map (λ (p : Pair). p.0) ps ≡ map (λ y. y.location) ys
  pairs_located = ap (λ qs. map (λ (p : Pair). p.0) qs) (sym numbered.2) ∙ (locations_of_pairs numbered.0 before ∙ located_alike)

  pub locations_agree : LocationsAgree ps ys xs
  locations_agree outcomes turns =
      let kept = named_executions_kept m xs b hx h in
      let one : kept.text ≡ ys = let both : Ok kept.text ≡ Ok ys = sym kept.is_text ∙ text in cc in
      let r = run_by_place (controls ys) outcomes turns in
      let qs = pairs_from before numbered.0 in
      ap (λ qs. locations_along qs (written_run ys qs outcomes turns)) (sym numbered.2)
      ∙ (run_twice (slice_get (places qs)) (option_and_then (location_in qs)) (slice_get (map (λ z. z.location) numbered.0)) (found numbered.0 before) r
      ∙ (ap (λ l. shown_by l r) located_alike
      ∙ (ap (λ l. locations_of l outcomes turns) (sym one) ∙ sym (kept.alike.locations outcomes turns))))

pub locations_honest : LocationsAreHonest
locations_honest env xs b spelt lawful =
    let named = lawful_named env xs b spelt lawful in locations_agree (typing_of env) (map name_at xs) (named_body b) named.0 named.1
