-- A body that a sink takes while it is written: what was taken and what is left is the whole.
use Rattle.std.specs.Prelude.{IfOk}
use Rattle.std.proofs.Common.{inl, inr, Result, Ok, Err, ◌≡◌, ℕ, ◌+◌, List, [], ◌∷◌, ◌++◌, length, Bool, true, false, refl, sym, ap, subst, ◌∙◌, append_assoc, length-append, arith}
use Rattle.wasm_operators.specs.Operations.{RawOperation}
use Rattle.wasm_operators.specs.Shortest.{short}
use Rattle.wasm_body.specs.declared.error.EmitError.{EmitError}
use Rattle.wasm_body.specs.declared.error.EmitError.TheVariants.{Memory}
use Rattle.wasm_body.specs.Translation.{Located}
use Rattle.walrus_emit_state.specs.Emission.{Output, pairs_after}
use Rattle.walrus_emit_state.specs.TreeWriting.Drafts.{Drafted, with_written}
use Rattle.walrus_flat.specs.Sinks.{no_output, joined_outputs, with_front, IsLeft, OfWhole, IsLast, TookFront}
use Rattle.walrus_flat.specs.Written.{drafted}

-- ---- an operator more

-- the pairs after an operator, whether the front is taken or not
pairs_join : (b : Bool) (base at : ℕ) (front o : Output) (location : ℕ) → at ≡ base + length front.bytes → pairs_after b base (joined_outputs front o) location ≡ front.pairs ++ pairs_after b at o location
pairs_join true base at front o location e =
    let place : base + length (front.bytes ++ o.bytes) ≡ at + length o.bytes = omega (arith, length-append front.bytes o.bytes, e) in
    ap (λ (n : ℕ). (front.pairs ++ o.pairs) ++ (location, n) ∷ []) place ∙ append_assoc front.pairs o.pairs ((location, at + length o.bytes) ∷ [])
pairs_join false base at front o location e = refl

one_more : (base : ℕ) (front : Output) (d : Drafted) (x : Located RawOperation) → d.base ≡ base + length front.bytes → with_written (with_front base front d) x ≡ with_front base front (with_written d x)
one_more base front d x e =
    let bytes = append_assoc front.bytes d.output.bytes (short x.op) in
    let pairs = pairs_join d.has_map base d.base front d.output x.location e in
    λ k. record { base = base; has_map = d.has_map; output = record { bytes = bytes k; pairs = pairs k } }

more : (base : ℕ) (front : Output) (d : Drafted) (xs : List (Located RawOperation)) → d.base ≡ base + length front.bytes → drafted (with_front base front d) xs ≡ with_front base front (drafted d xs)
more base front d [] e = refl
more base front d (x ∷ xs) e = ap (λ (q : Drafted). drafted q xs) (one_more base front d x e) ∙ more base front (with_written d x) xs e

same_base : (d : Drafted) (xs : List (Located RawOperation)) → (drafted d xs).base ≡ d.base
same_base d [] = refl
same_base d (x ∷ xs) = same_base (with_written d x) xs

module _ {S : Type 0} (takes : S → S → Output → Type 0) where
  pub left_more : (a b : S) (whole left : Drafted) (xs : List (Located RawOperation)) → IsLeft takes a b whole left → IsLeft takes a b (drafted whole xs) (drafted left xs)
  left_more a b whole left xs h = record {
    taken = h.taken;
    takes_it = h.takes_it;
    whole_is = ap (λ (q : Drafted). drafted q xs) h.whole_is ∙ (more whole.base h.taken left xs h.goes_on ∙ ap (λ (n : ℕ). with_front n h.taken (drafted left xs)) (sym (same_base whole xs)));
    goes_on = same_base left xs ∙ (h.goes_on ∙ ap (λ (n : ℕ). n + length h.taken.bytes) (sym (same_base whole xs)));
  }

  -- ---- what a sink took

  pub left_as_is : (a : S) (d : Drafted) → takes a a no_output → IsLeft takes a a d d
  left_as_is a d nothing = record { taken = no_output; takes_it = nothing; whole_is = refl; goes_on = omega arith }

  pub left_then : (a b c : S) (whole middle left : Drafted) → ((first second : Output) → takes a b first → takes b c second → takes a c (joined_outputs first second)) → IsLeft takes a b whole middle → IsLeft takes b c middle left →
      IsLeft takes a c whole left
  left_then a b c whole middle left both p q =
      let bytes = sym (append_assoc p.taken.bytes q.taken.bytes left.output.bytes) in
      let pairs = sym (append_assoc p.taken.pairs q.taken.pairs left.output.pairs) in
      record {
        taken = joined_outputs p.taken q.taken;
        takes_it = both p.taken q.taken p.takes_it q.takes_it;
        whole_is = p.whole_is ∙ (ap (with_front whole.base p.taken) q.whole_is ∙ (λ k. record { base = whole.base; has_map = left.has_map; output = record { bytes = bytes k; pairs = pairs k } }));
        goes_on = omega (arith, p.goes_on, q.goes_on, length-append p.taken.bytes q.taken.bytes);
      }

  -- all that was left is taken
  pub all_taken : (a b c : S) (whole left : Drafted) → ((first second : Output) → takes a b first → takes b c second → takes a c (joined_outputs first second)) → IsLeft takes a b whole left → takes b c left.output → takes a c whole.output
  all_taken a b c whole left both p q = subst (takes a c) (sym (ap (λ (d : Drafted). d.output) p.whole_is)) (both p.taken left.output p.takes_it q)

  -- ---- a statement of the whole

  pub of_whole : {P Q : Drafted → Type 0} (a b : S) (left : Drafted) → ((d : Drafted) → P d → Q d) → OfWhole takes a b P left → OfWhole takes a b Q left
  of_whole a b left f h = record { whole = h.whole; is_left = h.is_left; holds_of_it = f h.whole h.holds_of_it }

-- ---- what a sink leaves

module _ {S : Type 0} (takes refuses : S → S → Output → Type 0) (a b : S) where
  pub nothing_offered : (P : Drafted → Type 0) (e : EmitError) (d : Drafted) → takes a a no_output → P d → TookFront takes refuses a a P e
  nothing_offered P e d nothing p = record { middle = a; left = d; of_whole = record { whole = d; is_left = left_as_is takes a d nothing; holds_of_it = p }; last = inl refl }

  pub took_front : {P Q : Drafted → Type 0} (e : EmitError) → ((d : Drafted) → P d → Q d) → TookFront takes refuses a b P e → TookFront takes refuses a b Q e
  took_front e f h = record { middle = h.middle; left = h.left; of_whole = of_whole takes a h.middle h.left f h.of_whole; last = h.last }

  -- what is left of a draft was offered last
  pub last_offered : (P : Drafted → Type 0) (middle : S) (left : Drafted) → OfWhole takes a middle P left → IsLast refuses middle b left → TookFront takes refuses a b P Memory
  last_offered P middle left h (inl same) = record { middle = middle; left = left; of_whole = h; last = inl same }
  last_offered P middle left h (inr refused) = record { middle = middle; left = left; of_whole = h; last = inr (refl, refused) }

-- where nothing is taken it is what is left
pub in_memory : {S : Type 0} (P : Drafted → Type 0) (a b : S) (left : Drafted) → OfWhole (λ (x y : S) (o : Output). o ≡ no_output) a b P left → P left
in_memory P a b left h =
    let k = h.is_left in
    let begins : h.whole.base ≡ left.base = omega (arith, k.goes_on, ap (λ (o : Output). length o.bytes) k.takes_it) in
    subst P (k.whole_is ∙ (ap (λ (o : Output). with_front h.whole.base o left) k.takes_it ∙ ap (λ (n : ℕ). record left { base = n }) begins)) h.holds_of_it

pub if_in_memory : {S E : Type 0} (P : Drafted → Type 0) (a b : S) (r : Result Drafted E) → IfOk r (OfWhole (λ (x y : S) (o : Output). o ≡ no_output) a b P) → IfOk r P
if_in_memory P a b (Ok d) h = in_memory P a b d h
if_in_memory P a b (Err e) h = tt
