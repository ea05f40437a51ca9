-- Steps that did not fail, and tests.
use Rattle.std.proofs.Common.{◌≡◌, Bool, true, false, cond, Option, Some, None, Result, Ok, Err, refl, ap, inl, inr, ◌⊎◌}
use Rattle.source_map.specs.declared.fault.MappingsFault.{MappingsFault}
use Rattle.wasm_numbers.specs.Results.{◌>>=◌, some_or}

-- the value of a step that did not fail
pub bind_ok : {A B : Type 0} (r : Result A MappingsFault) (f : A → Result B MappingsFault) (y : B) → (r >>= f) ≡ Ok y → (x : A) × (r ≡ Ok x) × (f x ≡ Ok y)
bind_ok (Ok x) f y e = (x, refl, e)
bind_ok (Err d) f y e = absurd cc

pub some_or_ok : {A : Type 0} (o : Option A) (e : MappingsFault) (x : A) → some_or o e ≡ Ok x → o ≡ Some x
some_or_ok {A} (Some y) e x h = let q : y ≡ x = cc in ap (λ (z : A). Some z) q
some_or_ok None e x h = absurd cc

abbrev done : {A : Type 0} → A → Result A MappingsFault
done x = Ok x

pub ok_is : {A : Type 0} (x y : A) → done x ≡ done y → x ≡ y
ok_is x y e = cc

abbrev some : {A : Type 0} → A → Option A
some x = Some x

pub some_is : {A : Type 0} (x y : A) → some x ≡ some y → x ≡ y
some_is x y e = cc

-- which way a test went
pub chosen : {A : Type 0} (b : Bool) (x y z : A) → cond b x y ≡ z → ((b ≡ true) × (x ≡ z)) ⊎ ((b ≡ false) × (y ≡ z))
chosen true x y z e = inl (refl, e)
chosen false x y z e = inr (refl, e)

pub test_false : (b : Bool) → (b ≡ true → ⊥) → b ≡ false
test_false true h = absurd (h refl)
test_false false h = refl
