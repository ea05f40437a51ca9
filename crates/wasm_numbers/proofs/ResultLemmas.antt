-- Steps that did not fail.
use Rattle.std.proofs.Common.{◌≡◌, Bool, true, false, Option, Some, None, Result, Ok, Err, refl, ap}
use Rattle.wasm_numbers.specs.Results.{◌>>=◌, unless, some_or, with_fault}

-- the value of a step that did not fail
pub bind_ok : {A B E : Type 0} (r : Result A E) (f : A → Result B E) (y : B) → (r >>= f) ≡ Ok y → (x : A) × (r ≡ Ok x) × (f x ≡ Ok y)
bind_ok (Ok x) f y e = (x, refl, e)
bind_ok (Err d) f y e = absurd cc

pub with_fault_ok : {A E F : Type 0} (g : E → F) (r : Result A E) (x : A) → with_fault g r ≡ Ok x → r ≡ Ok x
with_fault_ok {A} {E} {F} g (Ok y) x e = let h : y ≡ x = cc in ap (λ (z : A). Ok z) h
with_fault_ok g (Err d) x e = absurd cc

pub unless_ok : {E : Type 0} (t : Bool) (e : E) (u : Unit {0}) → unless t e ≡ Ok u → t ≡ true
unless_ok true e u h = refl
unless_ok false e u h = absurd cc

pub some_or_ok : {A E : Type 0} (o : Option A) (e : E) (x : A) → some_or o e ≡ Ok x → o ≡ Some x
some_or_ok {A} (Some y) e x h = let q : y ≡ x = cc in ap (λ (z : A). Some z) q
some_or_ok None e x h = absurd cc

pub ok_same : {A E : Type 0} (x y : A) → (let r : Result A E = Ok x in r) ≡ Ok y → x ≡ y
ok_same x y e = cc
