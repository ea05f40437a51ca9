-- Probes change nothing of what the validation algorithm knows.
use Rattle.std.proofs.Common.{◌≡◌, List, [], ◌∷◌, ◌++◌, Option, Some, None, Ok, Err, ap, ◌∙◌}
use Rattle.std.specs.Prelude.{option_and_then}
use Rattle.std.specs.List.{AllByRecursion}
use Rattle.wasm_numbers.specs.Results.{◌>>=◌}
use Rattle.wasm_body.specs.Control.{Control, Plain, Does, control_of}
use Rattle.wasm_body.specs.NormalForm.{Typing}
use Rattle.wasm_body.specs.Validity.{Point, Change, OperandRules, Checked, required}
use Rattle.wasm_body.specs.Flat.{Named}
use Rattle.wasm_insertion.specs.InsertedValidity.{after_change, after_plain, Probed, done, same, probe, ProbedStaysValid}
use Rattle.wasm_body.proofs.Validity.NestedFrames.{NestedFrame, NestedFrames, at, step, validate, function_frame}
use Rattle.wasm_body.proofs.Validity.HeightsAgree.{valid_by_heights, valid_with_heights}

module _ {T : Type 0} (m : Typing) (r : OperandRules T) where
  -- plain operators go from point to point
  over_plain : (ps ys : List Named) → AllByRecursion (λ x. control_of x.op ≡ Does Plain) ps
      → (f : NestedFrame T) (fs : NestedFrames T) (p q : Point T) → after_plain r ps p ≡ Some q
      → validate m r (ps ++ ys) (at f p ∷ fs) ≡ validate m r ys (at f q ∷ fs)
  over_plain [] ys a f fs p q h =
      let e : p ≡ q = cc h in ap (λ z. validate m r ys (at f z ∷ fs)) e
  over_plain (x ∷ ps) ys a f fs p q h =
      ap (λ c. step m r c x.op (at f p ∷ fs) >>= λ gs. validate m r (ps ++ ys) gs) a.0
      ∙ by_change (r.plain x.op p) h (λ k e. over_plain ps ys a.1 f fs (after_change k p) q e)
    where
      by_change : (o : Option (Change T)) → option_and_then (λ k. after_plain r ps (after_change k p)) o ≡ Some q
          → ((k : Change T) → after_plain r ps (after_change k p) ≡ Some q → validate m r (ps ++ ys) (at f (after_change k p) ∷ fs) ≡ validate m r ys (at f q ∷ fs))
          → (((required o >>= λ c. Ok (after_change c p)) >>= λ z. Ok (at f z ∷ fs)) >>= λ gs. validate m r (ps ++ ys) gs) ≡ validate m r ys (at f q ∷ fs)
      by_change None e g = absurd (cc e)
      by_change (Some k) e g = g k e

  -- nothing is valid after the function's end
  ended : (x : Named) (c : Control) (xs : List Named) (gs : NestedFrames T) → (step m r c x.op [] >>= λ hs. validate m r xs hs) ≡ Ok gs → ⊥
  ended x c xs gs h = absurd (cc h)

  next : (xs ys : List Named) (gs : NestedFrames T) → ((fs : NestedFrames T) → validate m r xs fs ≡ Ok gs → validate m r ys fs ≡ Ok gs)
      → (s : Checked (NestedFrames T)) → (s >>= λ hs. validate m r xs hs) ≡ Ok gs → (s >>= λ hs. validate m r ys hs) ≡ Ok gs
  next xs ys gs f (Ok hs) h = f hs h
  next xs ys gs f (Err e) h = absurd (cc h)

  probed_valid : {xs ys : List Named} → Probed r xs ys → (fs gs : NestedFrames T) → validate m r xs fs ≡ Ok gs → validate m r ys fs ≡ Ok gs
  probed_valid done fs gs h = h
  probed_valid (same {x = x} {xs = xs} {ys = ys} f) fs gs h =
      next xs ys gs (λ hs e. probed_valid f hs gs e) (step m r (control_of x.op) x.op fs) h
  probed_valid (probe {ps = ps} {x = x} {xs = xs} {ys = ys} p f) [] gs h = absurd (ended x (control_of x.op) xs gs h)
  probed_valid (probe {ps = ps} {x = x} {xs = xs} {ys = ys} p f) (g ∷ fs) gs h =
      over_plain ps ys p.plain g fs g.point g.point (p.neutral g.point) ∙ probed_valid f (g ∷ fs) gs h

pub probed_stays_valid : (T : Type 0) → ProbedStaysValid T
probed_stays_valid T m r rs ls xs ys f v =
    valid_with_heights m r rs ls ys (probed_valid m r f (function_frame m r rs ls ∷ []) [] (valid_by_heights m r rs ls xs v))
