-- How reading and encodings agree: a value that is read is encoded by the bytes that are taken, and a value that is encoded at
-- the front is read.
use Rattle.std.proofs.Common.{◌≡◌, ℕ, zero, suc, ◌<◌, Bool, true, false, cond, List, [], ◌∷◌, ◌++◌, get_or, Result, Ok, refl, sym, ap, subst, ◌∙◌, append_assoc, inl, inr, ◌⊎◌}
use Rattle.std.proofs.lemmas.List.{append_cancel_right}
use Rattle.wasm_numbers.proofs.ResultLemmas.{bind_ok}
use Rattle.wasm_numbers.specs.declared.fault.ReadFault.{ReadFault}
use Rattle.wasm_numbers.specs.Reading.{Then, then_read, Made, made, Many, many, starts, Switch, switch}
use Rattle.wasm_numbers.specs.Results.{◌>>=◌}

abbrev pub IsBytes : List ℕ → Type 0
IsBytes bytes = (i : ℕ) → get_or bytes i 0 < 256

pub IsBytes-rest : (b : ℕ) (bytes : List ℕ) → IsBytes (b ∷ bytes) → IsBytes bytes
IsBytes-rest b bytes h i = h (suc i)

abbrev done : {A : Type 0} → A → Result A ReadFault
done x = Ok x

pub ok_is : {A : Type 0} (x y : A) → done x ≡ done y → x ≡ y
ok_is x y e = cc

-- the result of a test
pub chosen : {A : Type 0} (b : Bool) (x y z : A) → cond b x y ≡ z → ((b ≡ true) × (x ≡ z)) ⊎ ((b ≡ false) × (y ≡ z))
chosen true x y z e = inl (refl, e)
chosen false x y z e = inr (refl, e)

-- The bytes begin with an encoding of this value, and reading takes it.
pub record Takes {V : Type 0} (Spells : V → List ℕ → Type 0) (bytes : List ℕ) (v : V) (rest : List ℕ) : Type 0 where
  pub text : List ℕ
  pub parts : bytes ≡ text ++ rest
  pub spelt : Spells v text
  pub rest_fits : IsBytes rest

-- A value that is read is encoded by the bytes that are taken, and a value that is encoded at the front is read, whatever
-- follows.
pub record Agrees {V : Type 0} (Spells : V → List ℕ → Type 0) (read : List ℕ → Result (V × List ℕ) ReadFault) : Type 0 where
  pub takes : (bytes : List ℕ) (v : V) (rest : List ℕ) → IsBytes bytes → read bytes ≡ Ok (v, rest) → Takes Spells bytes v rest
  pub again : (v : V) (text rest : List ℕ) → Spells v text → read (text ++ rest) ≡ Ok (v, rest)

-- So no encoding is a prefix of another, and none encodes two values.
pub one_spelling : {V : Type 0} {Spells : V → List ℕ → Type 0} {read : List ℕ → Result (V × List ℕ) ReadFault} → Agrees Spells read
    → (v w : V) (a b x y : List ℕ) → Spells v a → Spells w b → a ++ x ≡ b ++ y → (v ≡ w) × (a ≡ b)
one_spelling {V} {Spells} {read} agrees v w a b x y p q e =
    let both : (v, x) ≡ (w, y) = ok_is (v, x) (w, y) (sym (agrees.again v a x p) ∙ ap read e ∙ agrees.again w b y q) in
    let rests : x ≡ y = ap (λ (z : V × List ℕ). z.1) both in
    (ap (λ (z : V × List ℕ). z.0) both, append_cancel_right a b x (e ∙ ap (λ (z : List ℕ). b ++ z) (sym rests)))

-- ---- the ways to combine encodings

pub joined : (bytes first middle second rest : List ℕ) → bytes ≡ first ++ middle → middle ≡ second ++ rest → bytes ≡ (first ++ second) ++ rest
joined bytes first middle second rest p q = p ∙ ap (λ (t : List ℕ). first ++ t) q ∙ sym (append_assoc first second rest)

pub parted : (text rest first second : List ℕ) → text ≡ first ++ second → text ++ rest ≡ first ++ (second ++ rest)
parted text rest first second e = ap (λ (t : List ℕ). t ++ rest) e ∙ append_assoc first second rest

pub nothing_agrees : {A : Type 0} (v : A) → Agrees (λ (w : A) text. (w ≡ v) × (text ≡ [])) (λ bytes. Ok (v, bytes))
nothing_agrees {A} v = record {
  takes = λ bytes w rest fits e.
      let both = ok_is (v, bytes) (w, rest) e in
      record { text = []; parts = ap (λ (p : A × List ℕ). p.1) both; spelt = (sym (ap (λ (p : A × List ℕ). p.0) both), refl); rest_fits = subst IsBytes (ap (λ (p : A × List ℕ). p.1) both) fits };
  again = λ w text rest h. rw (h.0, h.1) refl;
}

module _ {A B : Type 0} (R : A → List ℕ → Type 0) (S : A → B → List ℕ → Type 0) (r : List ℕ → Result (A × List ℕ) ReadFault) (s : A → List ℕ → Result (B × List ℕ) ReadFault)
    (first : Agrees R r) (second : (a : A) → Agrees (S a) (s a)) where
  then_takes : (bytes : List ℕ) (v : A × B) (rest : List ℕ) → IsBytes bytes → then_read r s bytes ≡ Ok (v, rest) → Takes (Then R S) bytes v rest
  then_takes bytes v rest fits e =
      let x = bind_ok (r bytes) (λ x. s x.0 x.1 >>= λ y. Ok ((x.0, y.0), y.1)) (v, rest) e in
      let y = bind_ok (s x.0.0 x.0.1) (λ y. Ok ((x.0.0, y.0), y.1)) (v, rest) x.2 in
      let p = first.takes bytes x.0.0 x.0.1 fits x.1 in
      let q = (second x.0.0).takes x.0.1 y.0.0 y.0.1 p.rest_fits y.1 in
      let made = ok_is ((x.0.0, y.0.0), y.0.1) (v, rest) y.2 in
      let both : Takes (Then R S) bytes (x.0.0, y.0.0) y.0.1 = record {
        text = p.text ++ q.text;
        parts = joined bytes p.text x.0.1 q.text y.0.1 p.parts q.parts;
        spelt = (p.text, q.text, refl {a = p.text ++ q.text}, p.spelt, q.spelt);
        rest_fits = q.rest_fits;
      } in
      subst (λ (z : (A × B) × List ℕ). Takes (Then R S) bytes z.0 z.1) {x = ((x.0.0, y.0.0), y.0.1)} made both

  then_again : (v : A × B) (text rest : List ℕ) → Then R S v text → then_read r s (text ++ rest) ≡ Ok (v, rest)
  then_again v text rest h =
      ap (then_read r s) (parted text rest h.0 h.1 h.2) ∙ rw (first.again v.0 h.0 (h.1 ++ rest) h.3, (second v.0).again v.1 h.1 rest h.4) refl

  pub agrees_then : Agrees (Then R S) (then_read r s)
  agrees_then = record { takes = then_takes; again = then_again }

module _ {A B : Type 0} (R : A → List ℕ → Type 0) (r : List ℕ → Result (A × List ℕ) ReadFault) (make : A → Result B ReadFault) (raw : Agrees R r) where
  made_takes : (bytes : List ℕ) (v : B) (rest : List ℕ) → IsBytes bytes → made r make bytes ≡ Ok (v, rest) → Takes (Made R make) bytes v rest
  made_takes bytes v rest fits e =
      let x = bind_ok (r bytes) (λ x. make x.0 >>= λ v. Ok (v, x.1)) (v, rest) e in
      let y = bind_ok (make x.0.0) (λ v. Ok (v, x.0.1)) (v, rest) x.2 in
      let p = raw.takes bytes x.0.0 x.0.1 fits x.1 in
      let is = ok_is (y.0, x.0.1) (v, rest) y.2 in
      let one : Takes (Made R make) bytes y.0 x.0.1 = record { text = p.text; parts = p.parts; spelt = (x.0.0, y.1, p.spelt); rest_fits = p.rest_fits } in
      subst (λ (z : B × List ℕ). Takes (Made R make) bytes z.0 z.1) is one

  made_again : (v : B) (text rest : List ℕ) → Made R make v text → made r make (text ++ rest) ≡ Ok (v, rest)
  made_again v text rest h = rw (raw.again h.0 text rest h.2, h.1) refl

  pub agrees_made : Agrees (Made R make) (made r make)
  agrees_made = record { takes = made_takes; again = made_again }

module _ {A : Type 0} (R : A → List ℕ → Type 0) (r : List ℕ → Result (A × List ℕ) ReadFault) (one : Agrees R r) where
  many_takes : (n : ℕ) (bytes : List ℕ) (vs : List A) (rest : List ℕ) → IsBytes bytes → many r n bytes ≡ Ok (vs, rest) → Takes (Many R n) bytes vs rest
  unfolding many
  many_takes zero bytes vs rest fits e =
      subst (λ (z : List A × List ℕ). Takes (Many R 0) bytes z.0 z.1) (ok_is ([], bytes) (vs, rest) e) (record { text = []; parts = refl; spelt = refl; rest_fits = fits })
  many_takes (suc n) bytes vs rest fits e =
      let x = bind_ok (r bytes) (λ first. many r n first.1 >>= λ others. Ok (first.0 ∷ others.0, others.1)) (vs, rest) e in
      let y = bind_ok (many r n x.0.1) (λ others. Ok (x.0.0 ∷ others.0, others.1)) (vs, rest) x.2 in
      let p = one.takes bytes x.0.0 x.0.1 fits x.1 in
      let q = many_takes n x.0.1 y.0.0 y.0.1 p.rest_fits y.1 in
      let is = ok_is (x.0.0 ∷ y.0.0, y.0.1) (vs, rest) y.2 in
      let both : Takes (Many R (suc n)) bytes (x.0.0 ∷ y.0.0) y.0.1 = record {
        text = p.text ++ q.text;
        parts = joined bytes p.text x.0.1 q.text y.0.1 p.parts q.parts;
        spelt = (p.text, q.text, refl {a = p.text ++ q.text}, p.spelt, q.spelt);
        rest_fits = q.rest_fits;
      } in
      subst (λ (z : List A × List ℕ). Takes (Many R (suc n)) bytes z.0 z.1) is both

  many_again : (n : ℕ) (vs : List A) (text rest : List ℕ) → Many R n vs text → many r n (text ++ rest) ≡ Ok (vs, rest)
  unfolding many
  many_again zero [] text rest h = ap (λ (t : List ℕ). many r 0 (t ++ rest)) h
  many_again zero (v ∷ vs) text rest h = absurd h
  many_again (suc n) [] text rest h = absurd h
  many_again (suc n) (v ∷ vs) text rest h =
      ap (many r (suc n)) (parted text rest h.0 h.1 h.2) ∙ rw (one.again v h.0 (h.1 ++ rest) h.3, many_again n vs h.1 rest h.4) refl

  pub agrees_many : (n : ℕ) → Agrees (Many R n) (many r n)
  agrees_many n = record { takes = many_takes n; again = many_again n }

-- ---- encodings that are never empty

pub record IsNeverEmpty {V : Type 0} (R : V → List ℕ → Type 0) : Type 0 where
  pub none : (v : V) → R v [] → ⊥

first_empty : (first second : List ℕ) → [] ≡ first ++ second → first ≡ []
first_empty [] second e = refl
first_empty (b ∷ first) second e = absurd cc

then_none : {A B : Type 0} (R : A → List ℕ → Type 0) (S : A → B → List ℕ → Type 0) → IsNeverEmpty R → (v : A × B) → Then R S v [] → ⊥
then_none R S some v h = some.none v.0 (subst (R v.0) (first_empty h.0 h.1 h.2) h.3)

pub then_some : {A B : Type 0} (R : A → List ℕ → Type 0) (S : A → B → List ℕ → Type 0) → IsNeverEmpty R → IsNeverEmpty (Then R S)
then_some R S some = record { none = then_none R S some }

pub made_some : {A B : Type 0} (R : A → List ℕ → Type 0) (make : A → Result B ReadFault) → IsNeverEmpty R → IsNeverEmpty (Made R make)
made_some R make some = record { none = λ v h. some.none h.0 h.2 }

switch_none : {A : Type 0} (test : ℕ → Bool) (R S : A → List ℕ → Type 0) → IsNeverEmpty R → IsNeverEmpty S → (v : A) → Switch test R S v [] → ⊥
switch_none test R S r s v (inl h) = r.none v h.1
switch_none test R S r s v (inr h) = s.none v h.1

pub switch_some : {A : Type 0} (test : ℕ → Bool) (R S : A → List ℕ → Type 0) → IsNeverEmpty R → IsNeverEmpty S → IsNeverEmpty (Switch test R S)
switch_some test R S r s = record { none = switch_none test R S r s }

-- ---- the first byte decides between two

-- an encoding that is not empty has the same first byte as the bytes that it begins
front : (test : ℕ → Bool) (bytes text rest : List ℕ) → (text ≡ [] → ⊥) → bytes ≡ text ++ rest → starts test text ≡ starts test bytes
front test bytes [] rest some e = absurd (some refl)
front test bytes (b ∷ text) rest some e = sym (ap (starts test) e)

module _ {A : Type 0} (test : ℕ → Bool) (R S : A → List ℕ → Type 0) (r s : List ℕ → Result (A × List ℕ) ReadFault) (one : Agrees R r) (two : Agrees S s)
    (r_some : IsNeverEmpty R) (s_some : IsNeverEmpty S) where
  switch_takes : (bytes : List ℕ) (v : A) (rest : List ℕ) → IsBytes bytes → switch test r s bytes ≡ Ok (v, rest) → Takes (Switch test R S) bytes v rest
  switch_takes bytes v rest fits e =
      elim (chosen (starts test bytes) (r bytes) (s bytes) (Ok (v, rest)) e) [
        | inl p ↦
            let t = one.takes bytes v rest fits p.1 in
            let same = front test bytes t.text rest (λ q. r_some.none v (subst (R v) q t.spelt)) t.parts in
            record { text = t.text; parts = t.parts; spelt = inl (same ∙ p.0, t.spelt); rest_fits = t.rest_fits }
        | inr p ↦
            let t = two.takes bytes v rest fits p.1 in
            let same = front test bytes t.text rest (λ q. s_some.none v (subst (S v) q t.spelt)) t.parts in
            record { text = t.text; parts = t.parts; spelt = inr (same ∙ p.0, t.spelt); rest_fits = t.rest_fits }
      ]

  switch_again : (v : A) (text rest : List ℕ) → Switch test R S v text → switch test r s (text ++ rest) ≡ Ok (v, rest)
  switch_again v [] rest (inl h) = absurd (r_some.none v h.1)
  switch_again v [] rest (inr h) = absurd (s_some.none v h.1)
  switch_again v (b ∷ text) rest (inl h) = rw (h.0, one.again v (b ∷ text) rest h.1) refl
  switch_again v (b ∷ text) rest (inr h) = rw (h.0, two.again v (b ∷ text) rest h.1) refl

  pub agrees_switch : Agrees (Switch test R S) (switch test r s)
  agrees_switch = record { takes = switch_takes; again = switch_again }
