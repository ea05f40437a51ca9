-- A translation that keeps locals keeps those that an operator names.
use Rattle.std.proofs.Common.{◌≡◌, ℕ, List, [], ◌∷◌, Ok, refl, sym, ap, ◌∙◌, subst}
use Rattle.wasm_operators.specs.Operations.{Immediate, local}
use Rattle.wasm_operators.specs.Immediates.{Kind, a_local}
use Rattle.wasm_numbers.specs.Results.{◌>>=◌, each}
use Rattle.wasm_body.specs.Translation.{Translation, translate_immediate, translate_immediates}
use Rattle.wasm_body.specs.LocalNumbers.{locals_among}
use Rattle.wasm_body.proofs.Translation.Steps.{bound}
use Rattle.wasm_body.proofs.Translation.Kinds.{kind_in, kind_kept, through, at_once}

-- the local that an immediate is, before others
abbrev pub before : {L B : Type 0} → Immediate L B → List ℕ → List ℕ
before (local n) ns = n ∷ ns
before _ ns = ns

pub first_local : {L B : Type 0} → (i : Immediate L B) (is : List (Immediate L B)) → locals_among (i ∷ is) ≡ before i (locals_among is)
first_local (local n) is = refl
first_local _ is = refl

abbrev pub IsNoLocal : Kind → Type 0
IsNoLocal a_local = ⊥
IsNoLocal _ = Unit {0}

pub no_local : {L B : Type 0} → (i : Immediate L B) (ns : List ℕ) → IsNoLocal (kind_in i) → before i ns ≡ ns
no_local (local n) ns h = absurd h
no_local _ ns h = refl

module _ {L B M C E : Type 0} (t : Translation L B M C E) (keeps : (n : ℕ) → t.local n ≡ Ok n) where
  one_kept : (i : Immediate L B) (j : Immediate M C) (ns : List ℕ) → translate_immediate t i ≡ Ok j → before j ns ≡ before i ns
  one_kept (local n) j ns e =
      through (t.local n) local (λ k. before k ns ≡ n ∷ ns) (λ y h. (let same : Ok y ≡ Ok n = sym h ∙ keeps n in let one : y ≡ n = cc in ap (λ m. m ∷ ns) one)) j e
  one_kept i j ns e = no_local j ns (subst IsNoLocal (sym (kind_kept t i j e)) tt)

  pub locals_kept : (is : List (Immediate L B)) (js : List (Immediate M C)) → translate_immediates t is ≡ Ok js → locals_among js ≡ locals_among is
  locals_kept [] js e = at_once [] (λ ks. locals_among ks ≡ []) refl js e
  locals_kept (i ∷ is) js e =
      let first = bound (translate_immediate t i) (λ k. each (translate_immediate t) is >>= λ ks. Ok (k ∷ ks)) js e in
      through (each (translate_immediate t) is) (λ ks. first.0 ∷ ks) (λ ks. locals_among ks ≡ locals_among (i ∷ is))
      (λ ks h. first_local first.0 ks ∙ (one_kept i first.0 (locals_among ks) first.1 ∙ (ap (before i) (locals_kept is ks h) ∙ sym (first_local i is)))) js first.2
