-- Bytes that go to a writer one piece after the other, how many they are, and pairs that a listener is told of: what a sink of
-- bodies has to show.
use Rattle.std.proofs.Common.{◌≡◌, ℕ, ◌+◌, Bool, true, false, List, [], ◌∷◌, ◌++◌, length, Option, Some, None, refl, sym, ap, subst, ◌∙◌, append_assoc, length-append, add-zero, add_assoc}
use Rattle.std.proofs.lemmas.List.{append-nil}
use Rattle.std.specs.Io.KnownBytes.{Appends}
use Rattle.wasm_body.specs.Pairs.{Pair}
use Rattle.wasm_module.specs.MapText.{pair_line, pair_lines, body_lines}
use Rattle.wasm_module.specs.ToldBodies.{ToldBody, if_needed, TellsMore}

pub appends_nothing : (known : Option (List ℕ)) → Appends known known []
appends_nothing None = tt
appends_nothing (Some xs) = sym (append-nil xs)

pub appends_then : (a b c : Option (List ℕ)) (first second : List ℕ) → Appends a b first → Appends b c second → Appends a c (first ++ second)
appends_then None b c first second p q = tt
appends_then (Some xs) None c first second p q = absurd p
appends_then (Some xs) (Some ys) None first second p q = absurd q
appends_then (Some xs) (Some ys) (Some zs) first second p q = q ∙ ap (λ (l : List ℕ). l ++ second) p ∙ append_assoc xs first second

pub counts_nothing : (n : ℕ) → n ≡ n + length {A = ℕ} []
counts_nothing n = sym (add-zero n)

pub counts_both : (a b c : ℕ) (first second : List ℕ) → b ≡ a + length first → c ≡ b + length second → c ≡ a + length (first ++ second)
counts_both a b c first second p q =
    q ∙ ap (λ (n : ℕ). n + length second) p ∙ add_assoc a (length first) (length second) ∙ ap (λ (n : ℕ). a + n) (sym (length-append first second))

-- ---- the lines of a location map

pub lines_more : (start : ℕ) (ps more : List Pair) → pair_lines start (ps ++ more) ≡ pair_lines start ps ++ pair_lines start more
lines_more start [] more = refl
lines_more start (p ∷ ps) more =
    ap (λ (l : List ℕ). pair_line start p ++ l) (lines_more start ps more) ∙ sym (append_assoc (pair_line start p) (pair_lines start ps) (pair_lines start more))

pub lines_then :
    (a b c : Option (List ℕ)) (body : ToldBody) (more : List Pair) → Appends a b (body_lines body) → Appends b c (body_lines (record body { pairs = more })) →
    Appends a c (body_lines (record body { pairs = body.pairs ++ more }))
lines_then a b c body more p q =
    subst (λ (l : List ℕ). Appends a c l) (sym (lines_more body.start body.pairs more))
    (appends_then a b c (pair_lines body.start body.pairs) (pair_lines body.start more) p q)

-- ---- pairs that a listener is told of

needed_both : (needs : Bool) (first second : List Pair) → if_needed needs (first ++ second) ≡ if_needed needs first ++ if_needed needs second
needed_both true first second = refl
needed_both false first second = refl

needed_none : (needs : Bool) → if_needed needs [] ≡ []
needed_none true = refl
needed_none false = refl

module _ {L : Type 0} (records : L → L → ToldBody → Type 0) where
  pub tells_nothing : (places : ℕ × ℕ) (s : L) (needs : Bool) → TellsMore records s s places.0 places.1 (if_needed needs [])
  tells_nothing places s needs = λ first pairs told.
      let same : pairs ≡ pairs ++ if_needed needs [] = sym (append-nil pairs) ∙ ap (λ (l : List Pair). pairs ++ l) (sym (needed_none needs)) in
      subst (λ (l : List Pair). records first s (record { old_start = places.0; start = places.1; pairs = l })) same told

  pub tells_both :
      (a b c : L) (places others : ℕ × ℕ) (needs also : Bool) (xs ys : List Pair) → others ≡ places → also ≡ needs → TellsMore records a b places.0 places.1 (if_needed needs xs) →
      TellsMore records b c others.0 others.1 (if_needed also ys) → TellsMore records a c places.0 places.1 (if_needed needs (xs ++ ys))
  tells_both a b c places others needs also xs ys same alike p q = λ first pairs told.
      let one = if_needed needs xs in
      let other = if_needed needs ys in
      let all : (pairs ++ one) ++ other ≡ pairs ++ if_needed needs (xs ++ ys) =
      append_assoc pairs one other ∙ ap (λ (l : List Pair). pairs ++ l) (sym (needed_both needs xs ys)) in
      let here : TellsMore records b c places.0 places.1 (if_needed also ys) =
      subst (λ (at : ℕ × ℕ). TellsMore records b c at.0 at.1 (if_needed also ys)) same q in
      let next : TellsMore records b c places.0 places.1 other = subst (λ (n : Bool). TellsMore records b c places.0 places.1 (if_needed n ys)) alike here in
      subst (λ (l : List Pair). records first c (record { old_start = places.0; start = places.1; pairs = l })) all (next first (pairs ++ one) (p first pairs told))
