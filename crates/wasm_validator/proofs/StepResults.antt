-- Results of steps, one after the other.
use Rattle.std.proofs.Common.{◌≡◌, ℕ, ◌∷◌, List, Result, Ok, Err, refl, sym, ap, subst}
use Rattle.wasm_types.specs.declared.val_type.ValType.{ValType}
use Rattle.wasm_numbers.specs.Results.{◌>>=◌}
use Rattle.wasm_body.specs.Validity as algorithm
use Rattle.wasm_body.specs.Validity.{Checked, refused}
use Rattle.wasm_typing.specs.StandardRules.{standard_rules}
use Rattle.wasm_context.specs.Validation.{BodyContext, typing_in}
use Rattle.wasm_validator.specs.declared.fault.Fault.{Fault}
use Rattle.wasm_validator.specs.declared.fault.Fault.TheVariants as fault
use Rattle.wasm_validator.specs.States.{Known}
use Rattle.wasm_validator.specs.Steps.{ResultsIn, fits_in}

-- a step that was the last
pub passes_on : {X Y : Type 0} (a : Checked X) (k : X → Checked Y) (x : X) (y : Y) (e : Fault) → ResultsIn a (Err e) x → ResultsIn (a >>= k) (Err e) y
passes_on a k x y fault.Refused h = ap (λ r. r >>= k) h
passes_on a k x y fault.Memory h = tt

-- a step, and then others
pub goes_on : {X Y : Type 0} (a : Checked X) (k : X → Checked Y) (x : X) (y : Y) (r : Result (Unit {0}) Fault) → a ≡ Ok x → ResultsIn (k x) r y → ResultsIn (a >>= k) r y
goes_on a k x y r h then = subst (λ w. ResultsIn (w >>= k) r y) (sym h) then

-- a test alone
pub tested : {X : Type 0} (a : Checked (Unit {0})) (x : X) (r : Result (Unit {0}) Fault) → ResultsIn a r tt → ResultsIn (a >>= λ u. Ok x) r x
tested a x (Ok u) h = ap (λ w. w >>= λ u. Ok x) h
tested a x (Err fault.Refused) h = ap (λ w. w >>= λ u. Ok x) h
tested a x (Err fault.Memory) h = tt

-- a step whose result becomes another
pub mapped : {X Y : Type 0} (a : Checked X) (k : X → Y) (r : Result (Unit {0}) Fault) (x : X) → ResultsIn a r x → ResultsIn (a >>= λ y. Ok (k y)) r (k x)
mapped a k (Ok u) x h = ap (λ w. w >>= λ y. Ok (k y)) h
mapped a k (Err fault.Refused) x h = ap (λ w. w >>= λ y. Ok (k y)) h
mapped a k (Err fault.Memory) x h = tt

-- steps in steps, in a row
pub nested : {X Y Z : Type 0} (a : Checked X) (k : X → Checked Y) (l : Y → Checked Z) → ((a >>= k) >>= l) ≡ (a >>= λ x. k x >>= l)
nested (Ok x) k l = refl
nested (Err e) k l = refl

-- a step after which all is refused
pub refuses : {X Y : Type 0} (a : Checked X) (k : X → Checked Y) → ((x : X) → k x ≡ Err refused) → (a >>= k) ≡ Err refused
refuses (Ok x) k h = h x
refuses (Err refused) k h = refl

-- an operand that is tested
pub fitting_is : (b : BodyContext) (t : ValType ℕ) (x : Known) (xs : List Known) → algorithm.fitting (typing_in b) (standard_rules b.operands) t (x ∷ xs) ≡ (fits_in b x t >>= λ u. Ok xs)
fitting_is b t algorithm.Unknown xs = refl
fitting_is b t (algorithm.Known k) xs = refl
