-- A result is one value, and whatever holds for each value holds for it.
use Rattle.std.specs.Prelude.{◌≡◌, IsErr, IfOk, IfErr, Result, Ok, Err}
use Rattle.std.proofs.Common.{refl, sym, ◌∙◌}

pub same_result : {A E : Type 0} (r : Result A E) (x y : A) → r ≡ Ok x → r ≡ Ok y → x ≡ y
same_result {A} {E} r x y e d = let both : (let q : Result A E = Ok x in q) ≡ Ok y = sym e ∙ d in cc

pub same_refusal : {A E : Type 0} (r : Result A E) (x y : E) → r ≡ Err x → r ≡ Err y → x ≡ y
same_refusal {A} {E} r x y e d = let both : (let q : Result A E = Err x in q) ≡ Err y = sym e ∙ d in cc

pub not_both : {A E : Type 0} (r : Result A E) (x : A) (y : E) → r ≡ Ok x → r ≡ Err y → ⊥
not_both {A} {E} r x y e d = let both : (let q : Result A E = Ok x in q) ≡ Err y = sym e ∙ d in cc

-- ---- properties of a result

pub if_ok : {A E : Type 0} (P Q : A → Type 0) → ((x : A) → P x → Q x) → (r : Result A E) → IfOk r P → IfOk r Q
if_ok P Q f (Ok x) h = f x h
if_ok P Q f (Err e) h = tt

pub if_err : {A E : Type 0} (P Q : E → Type 0) → ((e : E) → P e → Q e) → (r : Result A E) → IfErr r P → IfErr r Q
if_err P Q f (Ok x) h = tt
if_err P Q f (Err e) h = f e h

pub no_result : {A E : Type 0} (P : A → Type 0) → ((x : A) → P x → ⊥) → (r : Result A E) → IfOk r P → IsErr r
no_result P f (Ok x) h = absurd (f x h)
no_result P f (Err e) h = refl
